-- Any two orders of firings on a calm sheet, loops allowed, from one starting state:
-- if both come to rest, they fire equally often and leave one state.
-- Assumes nothing.
use mathlib.Core.Path.{◌≡◌, refl}
use mathlib.Core.Bool.{Bool, true, false}
use mathlib.Core.Option.{Option}
use mathlib.Core.List.{List}
use Prim.Native.Nat.{ℕ, ◌<◌}
use lib.ListN.{length, get_or}
use lib.Dec.{eqb, ltb}
use lib.IntN.{ℤ}
use borrow.Author.Tests.{eqb-false, ltb-true, ltb-false}
use Rattle.order_theory.proofs.Runs.{Rest, exec, fired, orders}
use Rattle.order_theory.proofs.Model.{Op, Local, Apart, State, step, diamond}
use Rattle.order_theory.proofs.Steps.{Item}
use Rattle.order_theory.proofs.Equations.{Kind}
use Rattle.order_theory.proofs.Denote.{denote, kind_local, takes_from}
use Rattle.order_theory.proofs.Sheets.{empty_op, find, op_at, op_at_lem, op_past, inside, empty_own, empty_outs, empty_local, gives, holds, blank}

pub record Calm (ops : List Kind) : Type 0 where
  pub def_once : (i j q : ℕ) → i < length ops → j < length ops → gives (get_or ops i blank) q ≡ true → gives (get_or ops j blank) q ≡ true
      → i ≡ j
  pub apart : (i j k : ℕ) → i < length ops → j < length ops → holds (get_or ops i blank) k ≡ true → holds (get_or ops j blank) k ≡ true → i ≡ j

module _ (ops : List Kind) where
  abbrev pub fires : ℕ → State Item ℤ → Option (State Item ℤ)
  fires = step 64 24 (λ q. find (λ κ. takes_from κ q) ops) (op_at ops)

  at_local : (i : ℕ) → Local Item ℤ (op_at ops i)
  at_local i = go (ltb i (length ops)) refl
    where
      go : (b : Bool) → ltb i (length ops) ≡ b → Local Item ℤ (op_at ops i)
      go true e = rw (op_at_lem ops i (ltb-true i (length ops) e)) (kind_local (get_or ops i blank))
      go false e = rw (op_past ops i (ltb-false i (length ops) e)) empty_local

  at_apart : Calm ops → (i j : ℕ) → eqb i j ≡ false → Apart Item ℤ (op_at ops i) (op_at ops j)
  at_apart c i j e = record {
    vars = λ k h. other (λ o. o.own k) (empty_own k) (λ hi hj. c.apart i j k hi hj) h ((op_at ops j).own k) refl;
    queues = λ q h. other (λ o. o.outs q) (empty_outs q) (λ hi hj. c.def_once i j q hi hj) h ((op_at ops j).outs q) refl;
  }
    where
      other : (f : Op Item ℤ → Bool) → f empty_op ≡ false
          → (i < length ops → j < length ops → f (denote (get_or ops i blank)) ≡ true → f (denote (get_or ops j blank)) ≡ true → i ≡ j)
          → f (op_at ops i) ≡ true → (b : Bool) → f (op_at ops j) ≡ b → b ≡ false
      other f z u h true h' =
          let r = inside ops i f z h in let r' = inside ops j f z h' in absurd (eqb-false i j e (u r.0 r'.0 r.1 r'.1))
      other f z u h false h' = refl

  pub one_rest : Calm ops → (is js : List ℕ) (s : State Item ℤ) → Rest fires (exec fires is s) → Rest fires (exec fires js s)
      → (fired fires is s ≡ fired fires js s) × (exec fires is s ≡ exec fires js s)
  one_rest c is js s = orders fires (diamond 64 24 (λ q. find (λ κ. takes_from κ q) ops) (op_at ops) at_local (at_apart c)) is js s
