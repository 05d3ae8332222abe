-- Operators and their translations: the theory counts what the judge lists.
-- Assumes nothing.
use mathlib.Core.Path.{◌≡◌, refl, ap, sym}
use mathlib.Core.Bool.{Bool, true, false, cond, not, ◌||◌, or-false}
use mathlib.Core.List.{List, [], ◌∷◌, map}
use Prim.Native.Nat.{ℕ, ◌+◌, ◌≤◌}
use native.Mathlib.Omega.{arith}
use lib.Dec.{eqb}
use borrow.Author.Tests.{eq-eqb}
use Rattle.base_lists.specs.Lists.{member, fresh, chain, bit, times}
use Rattle.base_lists.proofs.Tests.{both_of, member_append}
use Rattle.base_lists.proofs.Times.{member_times, fresh_apart, fresh_times}
use Rattle.sheet_step.specs.Step.{row_of, step_names}
use Rattle.sheet_step.specs.declared.Func.{Func}
use Rattle.sheet_step.specs.declared.Func.TheVariants.{None, Keep, Add, Copy, Count, Stamp}
use Rattle.sheet_step.specs.declared.Step.{Step}
use Rattle.sheet_operator.specs.Op.{Op, line, latest, double, deal, gather, reads, defines, names}
use Rattle.order_theory.proofs.Steps.{named, line_op}
use Rattle.order_theory.proofs.Deal.{deal_op, gather_op}
use Rattle.order_theory.proofs.Denote.{denote, takes_from, latest_op, double_op}
use Rattle.order_theory.proofs.Sheets.{gives, holds}
use Rattle.order_theory.proofs.Accept.{gives_n, reads_n}
use Rattle.order.proofs.Model.{step_by, step_as, kind_as}

-- how often a queue stands in a list
pub member_of_times : (q : ℕ) (l : List ℕ) → 1 ≤ times q l → member q l ≡ true
member_of_times q l h = go (member q l) refl
  where
    go : (b : Bool) → member q l ≡ b → b ≡ true
    go true e = refl
    go false e = absurd (omega (arith, member_times q l e))

pub bit_most : (b : Bool) → 0 + bit b ≤ 1
bit_most true = omega arith
bit_most false = omega arith

-- fresh numbers are counted once, and not where they are known; and that is all
pub fresh_once : (d : ℕ → Bool) (l : List ℕ) → fresh d l ≡ true → (q : ℕ) → times q l + bit (d q) ≤ 1
fresh_once d l h q = go (d q) refl
  where
    go : (b : Bool) → d q ≡ b → times q l + bit b ≤ 1
    go true e = omega (arith, fresh_apart d l q h e)
    go false e = omega (arith, fresh_times d l h q)

pub once_fresh : (d : ℕ → Bool) (l : List ℕ) → ((q : ℕ) → times q l + bit (d q) ≤ 1) → fresh d l ≡ true
once_fresh d [] h = refl
once_fresh d (x ∷ l) h =
    both_of (not (d x)) (fresh (λ (y : ℕ). eqb y x || d y) l)
    (unknown (d x) (rw (eq-eqb x x refl) at (h x)))
    (once_fresh (λ (y : ℕ). eqb y x || d y) l (λ q. go q (eqb q x) (h q)))
  where
    unknown : (b : Bool) → bit true + times x l + bit b ≤ 1 → not b ≡ true
    unknown true g = absurd (omega arith)
    unknown false g = refl

    go : (q : ℕ) (b : Bool) → bit b + times q l + bit (d q) ≤ 1 → times q l + bit (b || d q) ≤ 1
    go q true g = omega arith
    go q false g = omega arith

-- the queues that an operator defines and reads
pub gives_times : (q : ℕ) (o : Op) → gives_n q (kind_as o) ≡ times q (defines o)
unfolding gives_n
gives_times q (line p r ss) = omega arith
gives_times q (latest p v f) = refl
gives_times q (double p r s) = omega arith
gives_times q (deal c p qs) = refl
gives_times q (gather c r ps) = omega arith

pub reads_times : (q : ℕ) (o : Op) → reads_n q (kind_as o) ≡ times q (reads o)
unfolding reads_n
reads_times q (line p r ss) = omega arith
reads_times q (latest p v f) = omega arith
reads_times q (double p r s) = omega arith
reads_times q (deal c p qs) = omega arith
reads_times q (gather c r ps) = refl

pub or_none : (b : Bool) → b ≡ (b || false)
or_none b = sym (or-false b)

pub gives_member : (o : Op) (q : ℕ) → gives (kind_as o) q ≡ member q (defines o)
unfolding denote line_op latest_op double_op deal_op gather_op
gives_member (line p r ss) q = or_none (eqb q r)
gives_member (latest p v f) q = refl
gives_member (double p r s) q = ap (λ (b : Bool). eqb q r || b) (or_none (eqb q s))
gives_member (deal c p qs) q = refl
gives_member (gather c r ps) q = or_none (eqb q r)

pub takes_member : (o : Op) (q : ℕ) → takes_from (kind_as o) q ≡ member q (reads o)
unfolding takes_from
takes_member (line p r ss) q = or_none (eqb q p)
takes_member (latest p v f) q = or_none (eqb q p)
takes_member (double p r s) q = or_none (eqb q p)
takes_member (deal c p qs) q = or_none (eqb q p)
takes_member (gather c r ps) q = refl

-- the variables that it names
named_by : (f : Func) (s : Step) (k : ℕ) → named (step_by f s) k ≡ member k (cond (row_of f).variable (s.variable ∷ []) [])
named_by None s k = refl
named_by Keep s k = refl
named_by Add s k = refl
named_by Copy s k = refl
named_by Count s k = or_none (eqb k s.variable)
named_by Stamp s k = or_none (eqb k s.variable)

named_step : (s : Step) (k : ℕ) → named (step_as s) k ≡ member k (step_names s)
unfolding step_names
named_step s k = named_by s.func s k

pub steps_named : (ss : List Step) (k : ℕ) → Rattle.order_theory.proofs.Steps.names (map step_as ss) k ≡ member k (chain step_names ss)
unfolding Rattle.order_theory.proofs.Steps.names
steps_named [] k = refl
steps_named (s ∷ ss) k =
    rw (member_append k (step_names s) (chain step_names ss), named_step s k, steps_named ss k)

pub holds_member : (o : Op) (k : ℕ) → holds (kind_as o) k ≡ member k (names o)
unfolding denote line_op latest_op double_op deal_op gather_op
holds_member (line p r ss) k = steps_named ss k
holds_member (latest p v f) k = or_none (eqb k v)
holds_member (double p r s) k = refl
holds_member (deal c p qs) k = or_none (eqb k c)
holds_member (gather c r ps) k = or_none (eqb k c)
