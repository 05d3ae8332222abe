-- That an operator's steps' numbers fit 32 bits and their functions are known, and how long its record is.
-- Assumes nothing.
use mathlib.Core.Path.{◌≡◌, refl}
use mathlib.Core.Bool.{Bool, true}
use mathlib.Core.List.{List, [], ◌∷◌}
use Prim.Native.Nat.{ℕ, ◌+◌, ◌*◌, ◌≤◌}
use native.Mathlib.Omega.{arith}
use lib.ListN.{length, get_or, length-append}
use mir.Syntax.{w32}
use mir.Val.{SFits}
use Rattle.base_number.proofs.Bytes.{length_short_bytes}
use Rattle.base_lists.specs.Lists.{all, chain}
use Rattle.sheet_step.specs.Step.{STEP_BYTES, no_step, known_func, step_bytes}
use Rattle.sheet_step.specs.declared.Step.{Step}
use Rattle.sheet_step.proofs.Back.{length_step_bytes}
use Rattle.sheet_operator.specs.Op.{Op, line, latest, double, deal, gather}
use Rattle.sheet_operator.proofs.ViewLaws.{Small}
use Rattle.sheet_format.specs.Record.{HEADER, BODY_MOST, record_bytes, body_bytes}

-- a step's two numbers are of 32 bits; past its end a list of steps holds `no_step`, whose numbers are 0
pub record FitsStep (t : Step) : Type 0 where
  pub low : SFits w32 t.low
  pub high : SFits w32 t.high

abbrev pub FitsSteps : List Step → Type 0
FitsSteps ss = (k : ℕ) → FitsStep (get_or ss k no_step)

abbrev pub FitsOp : Op → Type 0
FitsOp (line p q ss) = FitsSteps ss
FitsOp (latest p v f) = Unit
FitsOp (double p q r) = Unit
FitsOp (deal c p qs) = Unit
FitsOp (gather c q ps) = Unit

-- the functions of an operator's steps are known
abbrev pub known_steps : List Step → Bool
known_steps ss = all (λ (t : Step). known_func t.func) ss

abbrev pub known_op : Op → Bool
known_op (line p q ss) = known_steps ss
known_op (latest p v f) = true
known_op (double p q r) = true
known_op (deal c p qs) = true
known_op (gather c q ps) = true

pub length_steps_bytes : (ss : List Step) → length (chain step_bytes ss) ≡ STEP_BYTES * length ss
length_steps_bytes [] = refl
length_steps_bytes (t ∷ ss) = simp (length-append, length_step_bytes, length_steps_bytes ss) (omega arith)

pub length_record_bytes : (n : ℕ) (b : List ℕ) → length (record_bytes n b) ≡ HEADER + length b
unfolding record_bytes
length_record_bytes n b = simp (length-append, length_short_bytes) (omega arith)

pub length_body_bytes : (o : Op) → Small o → length (body_bytes o) ≤ BODY_MOST
length_body_bytes (line p q ss) h = omega (arith, length_steps_bytes ss)
length_body_bytes (latest p v f) h = omega arith
length_body_bytes (double p q r) h = omega arith
length_body_bytes (deal c p qs) h = omega arith
length_body_bytes (gather c q ps) h = omega arith
