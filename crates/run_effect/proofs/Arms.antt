-- The arms of the program, by kind, that do not compute to what the view of the operator says.
-- Assumes nothing.
use mathlib.Core.Path.{◌≡◌, sym, ap, ◌∙◌}
use mathlib.Core.Bool.{Bool, true, false, cond, not}
use mathlib.Core.List.{List, [], ◌∷◌}
use Prim.Native.Nat.{ℕ, ◌<◌}
use lib.Dec.{eqb}
use lib.ListN.{length, get_or, set}
use lib.IntN.{ℤ, pos}
use Rattle.base_lists.proofs.Build.{build_length, build_get_or}
use Rattle.run_store.specs.declared.Item.{Item}
use Rattle.sheet_operator.specs.declared.Kind.TheVariants.{Latest, Deal, Gather}
use Rattle.sheet_operator.specs.declared.Operator.{Operator}
use Rattle.sheet_operator.specs.Op.{Op}
use Rattle.sheet_operator.specs.Memory.{ways, view}
use Rattle.sheet_operator.proofs.ViewLaws.{by_kind}
use Rattle.run_effect.specs.declared.Flow.{Flow}
use Rattle.run_effect.specs.Effect.{Result, cursor_at, moved_on, line_result, effect, waits, in_ways, cursor_good}

pub line_kept : (q : ℕ) (y : Flow) → y.kept ≡ true → ◌≡◌ {A = Result} (record { puts = q ∷ []; item = y.item; vars = y.vars }) (line_result q y)
line_kept q y h = ap (λ (b : Bool). record { puts = cond b (q ∷ []) []; item = y.item; vars = y.vars }) (sym h)

pub line_dropped : (q : ℕ) (y : Flow) → y.kept ≡ false → ◌≡◌ {A = Result} (record { puts = []; item = y.item; vars = y.vars }) (line_result q y)
line_dropped q y h = ap (λ (b : Bool). record { puts = cond b (q ∷ []) []; item = y.item; vars = y.vars }) (sym h)

-- the ways of an operator in memory
ways_length : (n : ℕ) (l : List ℕ) → length (ways n l) ≡ n
ways_length n l = build_length n (λ (k : ℕ). get_or l k 0)

ways_at : (n : ℕ) (l : List ℕ) (k : ℕ) → k < n → get_or (ways n l) k 0 ≡ get_or l k 0
ways_at n l k h = build_get_or n (λ (j : ℕ). get_or l j 0) 0 k h

module _ (o : Operator) (vs : List ℤ) where
  -- the test of the cursor in memory is that of the view
  pub deal_test : o.kind ≡ Deal → in_ways (get_or vs o.variable (pos 0)) o.count ≡ cursor_good (view o) vs
  unfolding cursor_good
  deal_test e = ap (in_ways (get_or vs o.variable (pos 0))) (sym (ways_length o.count o.outs)) ∙ by_kind (λ (x : Op). cursor_good x vs) o Deal e

  pub gather_test : o.kind ≡ Gather → in_ways (get_or vs o.variable (pos 0)) o.count ≡ cursor_good (view o) vs
  unfolding cursor_good
  gather_test e = ap (in_ways (get_or vs o.variable (pos 0))) (sym (ways_length o.count o.ins)) ∙ by_kind (λ (x : Op). cursor_good x vs) o Gather e

  pub gather_waits : o.kind ≡ Gather → (q n : ℕ) → n ≡ cursor_at o.variable vs → n < o.count → not (eqb (get_or o.ins n 0) q) ≡ waits (view o) q vs
  unfolding waits
  gather_waits e q n i l =
      ap (λ (p : ℕ). not (eqb p q)) (sym (ways_at o.count o.ins n l)) ∙ ap (λ (k : ℕ). not (eqb (get_or (ways o.count o.ins) k 0) q)) i
      ∙ by_kind (λ (x : Op). waits x q vs) o Gather e

  pub latest_effect : o.kind ≡ Latest → (x : Item) (us : List ℤ) → us ≡ set vs o.variable (get_or x.f o.field (pos 0)) →
      ◌≡◌ {A = Result} (record { puts = []; item = x; vars = us }) (effect (view o) x vs)
  unfolding effect
  latest_effect e x us h = ap (λ (ws : List ℤ). record { puts = []; item = x; vars = ws }) h ∙ by_kind (λ (y : Op). effect y x vs) o Latest e

  moved_ways : (l : List ℕ) (us : List ℤ) → us ≡ moved_on o.variable o.count vs → us ≡ moved_on o.variable (length (ways o.count l)) vs
  moved_ways l us h = h ∙ ap (λ (n : ℕ). moved_on o.variable n vs) (sym (ways_length o.count l))

  pub deal_effect : o.kind ≡ Deal → (x : Item) (n : ℕ) (us : List ℤ) → n ≡ cursor_at o.variable vs → n < o.count → us ≡ moved_on o.variable o.count vs →
      ◌≡◌ {A = Result} (record { puts = get_or o.outs n 0 ∷ []; item = x; vars = us }) (effect (view o) x vs)
  unfolding effect
  deal_effect e x n us i l h =
      result (sym (ways_at o.count o.outs n l) ∙ ap (λ (k : ℕ). get_or (ways o.count o.outs) k 0) i) (moved_ways o.outs us h)
      ∙ by_kind (λ (y : Op). effect y x vs) o Deal e
    where
      result : {p q : ℕ} {us ws : List ℤ} → p ≡ q → us ≡ ws →
          ◌≡◌ {A = Result} (record { puts = p ∷ []; item = x; vars = us }) (record { puts = q ∷ []; item = x; vars = ws })
      result a b = cc

  pub gather_effect : o.kind ≡ Gather → (x : Item) (us : List ℤ) → us ≡ moved_on o.variable o.count vs →
      ◌≡◌ {A = Result} (record { puts = get_or o.outs 0 0 ∷ []; item = x; vars = us }) (effect (view o) x vs)
  unfolding effect
  gather_effect e x us h =
      ap (λ (ws : List ℤ). record { puts = get_or o.outs 0 0 ∷ []; item = x; vars = ws }) (moved_ways o.ins us h)
      ∙ by_kind (λ (y : Op). effect y x vs) o Gather e
