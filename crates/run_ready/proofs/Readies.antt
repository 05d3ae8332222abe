-- The ready set: one queue's bit by trying its reader, and the loop that adds the bits from the highest queue down.
-- Assumes nothing.
use mathlib.Core.Path.{◌≡◌, refl, sym, ap, ◌∙◌}
use mathlib.Core.Bool.{Bool, true, false, cond}
use mathlib.Core.List.{List, [], ◌∷◌}
use Prim.Native.Nat.{ℕ, ◌+◌, ◌-◌, ◌*◌, ◌^◌, ◌≤◌, ◌<◌}
use native.Mathlib.Omega.{arith}
use lib.Dec.{eqb}
use lib.ListN.{get_or}
use Rattle.base_lists.specs.Lists.{bit}
use Rattle.sheet_operator.specs.Op.{Op, double}
use Rattle.base_bounds.specs.Bounds.{QUEUES}
use Rattle.run_effect.specs.Effect.{effect, waits}
use Rattle.sheet.specs.declared.Sheet.{Sheet}
use Rattle.sheet.specs.Answer.{accepted}
use Rattle.sheet.specs.Sheet.{view_sheet}
use Rattle.sheet.specs.Check.{check_of}
use Rattle.run_store.specs.declared.Item.{Item}
use Rattle.run_machine.specs.Machine.{Machine, Outcome, refuse, done, full, commit, fire_from, fire_op}
use Rattle.run_machine.specs.Ready.{SET, accepts, ready_at, bits_from, ready_set}
use Rattle.run_machine.specs.Working.{refusal_of}
use Rattle.run_machine.proofs.Found.{reads_in_table}
use Rattle.run_machine.proofs.ReaderLaws.{unread_past, fire_unread}
use Rattle.run_machine.proofs.ReadyLaws.{bits_none, bits_down, bits_fit}

-- ---- one queue's bit

-- a firing is accepted exactly if its number is 0, for no refusal of a firing has that number
committed_number : (b : Bool) (m : Machine) → accepts (cond b (refuse 12) (done m)) ≡ eqb (refusal_of (cond b (refuse 12) (done m))) 0
committed_number true m = refl
committed_number false m = refl

waited_number : (b : Bool) (r : Outcome) → accepts r ≡ eqb (refusal_of r) 0 → accepts (cond b (refuse 11) r) ≡ eqb (refusal_of (cond b (refuse 11) r)) 0
waited_number true r h = refl
waited_number false r h = h

accepts_number : (o : Op) (m : Machine) (q : ℕ) (xs : List Item) → accepts (fire_from o m q xs) ≡ eqb (refusal_of (fire_from o m q xs)) 0
unfolding fire_from commit
accepts_number o m q [] = refl
accepts_number o m q (x ∷ xs) =
    waited_number (waits o q m.vars) (commit m q xs (effect o x m.vars))
    (committed_number (full m.queues (effect o x m.vars).puts) _)

pub bit_accepted : (o : Op) (m : Machine) (q : ℕ) → 0 ≡ refusal_of (fire_op o m q) → 1 ≡ bit (accepts (fire_op o m q))
bit_accepted o m q e = sym (ap bit (accepts_number o m q (get_or m.queues q []) ∙ ap (λ (k : ℕ). eqb k 0) (sym e)))

-- ---- the loop

-- what is ready past the last queue: nothing, for no operator of the sheet reads there
pub ready_past : (t : Sheet) → check_of t ≡ accepted → (m : Machine) → 0 ≡ bits_from (ready_at (view_sheet t) m) QUEUES (SET - QUEUES)
ready_past t h m =
    let a = view_sheet t in
    sym (bits_none (ready_at a m) QUEUES (SET - QUEUES)
    (λ k l. ap accepts (fire_unread a.ops m k (unread_past a.ops (double 0 0 0) QUEUES k (reads_in_table t h (double 0 0 0)) l))))

module _ (f : ℕ → Bool) (q set : ℕ) (p : 0 < q) (l : q ≤ SET) (e : set ≡ bits_from f q (SET - q)) where
  -- a turn
  pub ready_turn : (b : ℕ) → b ≡ bit (f (q - 1)) → 2 * set + b ≡ bits_from f (q - 1) (SET - (q - 1))
  ready_turn b h = let d = bits_down f q SET p l in omega arith

  -- which fits
  pub ready_fits : 2 * set < 2 ^ SET
  ready_fits = omega (arith, bits_fit f q (SET - q) 31 (omega arith))

-- the end
pub ready_all : (t : Sheet) (m : Machine) (q set : ℕ) → q ≤ 0 → set ≡ bits_from (ready_at (view_sheet t) m) q (SET - q) → set ≡ ready_set (view_sheet t) m
unfolding ready_set
ready_all t m q set z e = let d : q ≡ 0 = omega arith in rw d at e
