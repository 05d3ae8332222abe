-- A fresh start is a good machine of every sound sheet: no items, and zeros in every variable.
-- Assumes nothing.
use mathlib.Core.Path.{◌≡◌, refl, ap, ◌∙◌}
use mathlib.Core.Bool.{true}
use mathlib.Core.List.{[]}
use Prim.Native.Nat.{ℕ, zero, suc}
use native.Mathlib.Omega.{arith}
use lib.ListN.{length, get_or, replicate}
use lib.IntN.{ℤ, pos}
use borrow.Author.Tests.{lt-ltb}
use Rattle.base_lists.proofs.Tests.{all_of_each}
use Rattle.base_lists.proofs.Places.{same_at}
use Rattle.sheet_operator.specs.Op.{Op, line, latest, double, deal, gather, Abstract}
use Rattle.sheet_operator.proofs.ViewLaws.{Small}
use Rattle.base_bounds.specs.Bounds.{VARIABLES, QUEUES}
use Rattle.run_store.specs.Store.{STORE}
use Rattle.run_store.specs.Queues.{AllWide}
use Rattle.run_store.proofs.StoreLaws.{zeros_store}
use Rattle.run_effect.specs.Effect.{in_ways, cursor_good}
use Rattle.run_machine.specs.Machine.{Machine}
use Rattle.run_machine.specs.Numbers.{state_of, store_in, GoodM}
use Rattle.run_machine.specs.Calls.{fresh_state}
use Rattle.run_machine.proofs.Sound.{op_in, Sound}

abbrev pub fresh_machine : Machine
fresh_machine = record { queues = replicate QUEUES []; vars = replicate VARIABLES (pos 0) }

pub fresh_numbers : (state_of fresh_machine ≡ fresh_state) × (store_in fresh_machine ≡ replicate STORE (pos 0))
fresh_numbers = (refl, zeros_store QUEUES)

wide_none : (n : ℕ) → AllWide (replicate n [])
wide_none zero = tt
wide_none (suc n) = (tt, wide_none n)

-- a cursor at 0 lies in its range, since there are two ways at least
zero_cursor : (n : ℕ) (o : Op) → Small o → cursor_good o (replicate n (pos 0)) ≡ true
unfolding cursor_good
zero_cursor n (line p q ss) h = refl
zero_cursor n (latest p v f) h = refl
zero_cursor n (double p q r) h = refl
zero_cursor n (deal c p qs) h = ap (λ (z : ℤ). in_ways z (length qs)) (same_at n (pos 0) c) ∙ lt-ltb 0 (length qs) (omega (arith, h.0))
zero_cursor n (gather c q ps) h = ap (λ (z : ℤ). in_ways z (length ps)) (same_at n (pos 0) c) ∙ lt-ltb 0 (length ps) (omega (arith, h.0))

pub fresh_good : (a : Abstract) → Sound a → GoodM a fresh_machine
fresh_good a s =
    record {
      many = refl;
      fit = λ q l. let e : get_or fresh_machine.queues q [] ≡ [] = same_at QUEUES [] q in omega (arith, ap length e);
      wide = wide_none QUEUES;
      far = λ q l. same_at QUEUES [] q;
      size = refl;
      none = λ v l. same_at VARIABLES (pos 0) v;
      cursors = all_of_each (λ (o : Op). cursor_good o (replicate VARIABLES (pos 0))) (double 0 0 0) a.ops
          (λ i l. zero_cursor VARIABLES (op_in a i) (s.each i l).small);
    }
