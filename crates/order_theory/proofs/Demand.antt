-- Demand 3: any order of firings on a calm sheet and any order on a sheet made from it by rewritings leave the same.
-- Assumes nothing.
use mathlib.Core.Path.{◌≡◌, refl, ap, sym, ◌∙◌, subst}
use mathlib.Core.Bool.{Bool, true, false, cond, ◌||◌}
use mathlib.Core.Option.{Option, some, none}
use mathlib.Core.Logic.{◌⊎◌, inl, inr}
use mathlib.Core.List.{List, [], ◌∷◌}
use Prim.Native.Nat.{ℕ, zero, suc, ◌+◌, ◌≤◌, ◌<◌}
use native.Mathlib.Omega.{arith}
use lib.ListN.{length, get_or}
use lib.IntN.{ℤ, pos}
use Rattle.base_lists.proofs.Tests.{or_cases}
use Rattle.order_theory.proofs.Runs.{Run, Rest}
use Rattle.order_theory.proofs.Model.{Op, State, step}
use Rattle.order_theory.proofs.Trace.{tput, ttake}
use Rattle.order_theory.proofs.Steps.{Item}
use Rattle.order_theory.proofs.Kahn.{Sol, Worst, rested, same_history, same_vars, sum, weight}
use Rattle.order_theory.proofs.Equations.{Kind, nought, Whole, Eq}
use Rattle.order_theory.proofs.Denote.{takes_from}
use Rattle.order_theory.proofs.Sheets.{found, find, find_some, find_none, Accepted, sheet_of, eqs, solves, hit, op_at, op_at_lem, inside, empty_own, gives}
use Rattle.order_theory.proofs.Sheets.{holds}
use Rattle.order_theory.proofs.Sheets.{blank}
use Rattle.order_theory.proofs.Counts.{WEq, grows}
use Rattle.order_theory.proofs.Rewrites.{All, all_at, all_of, read_by, harvest}

-- which variables are named
unfoldable pub held_by : List Kind → ℕ → Bool
held_by [] k = false
held_by (κ ∷ κs) k = holds κ k || held_by κs k

or_none : (a : Bool) (o : Option ℕ) (b : Bool) → (a || b) ≡ false → (b ≡ false → o ≡ none) → found a o ≡ none
or_none true o b h f = let z : ◌≡◌ {A = ℕ} 0 1 = cc in absurd (omega arith)
or_none false o b h f = rw (f h)

pub unread : (q : ℕ) (l : List Kind) → read_by l q ≡ false → find (λ κ. takes_from κ q) l ≡ none
unfolding read_by find
unread q [] h = refl
unread q (κ ∷ l) h = or_none (takes_from κ q) (find (λ κ. takes_from κ q) l) (read_by l q) h (λ e. unread q l e)

pub unheld : (k : ℕ) (l : List Kind) → held_by l k ≡ false → find (λ κ. holds κ k) l ≡ none
unfolding held_by find
unheld k [] h = refl
unheld k (κ ∷ l) h = or_none (holds κ k) (find (λ κ. holds κ k) l) (held_by l k) h (λ e. unheld k l e)

pub held : (k : ℕ) (l : List Kind) → held_by l k ≡ true → (i : ℕ) × (i < length l) × (holds (get_or l i blank) k ≡ true)
unfolding held_by
held k [] h = let z : ◌≡◌ {A = ℕ} 0 1 = cc in absurd (omega arith)
held k (κ ∷ l) h = go (or_cases (holds κ k) (held_by l k) h) (λ e. held k l e)
  where
    go : (holds κ k ≡ true) ⊎ (held_by l k ≡ true) → (held_by l k ≡ true → (i : ℕ) × (i < length l) × (holds (get_or l i blank) k ≡ true))
        → (i : ℕ) × (i < suc (length l)) × (holds (get_or (κ ∷ l) i blank) k ≡ true)
    go (inl e) f = (0, omega arith, e)
    go (inr e) f = let r = f e in (suc r.0, omega (arith, r.1), r.2)

pub harvest_same : (rd : ℕ → Bool) (H H' : Whole) (n q : ℕ) → ((r : ℕ) → r < q + n → rd r ≡ false → H r ≡ H' r)
    → harvest rd H n q ≡ harvest rd H' n q
unfolding harvest
harvest_same rd H H' zero q f = refl
harvest_same rd H H' (suc n) q f = go (rd q) refl (harvest_same rd H H' n (suc q) (λ r h e. f r (omega arith) e))
  where
    go : (b : Bool) → rd q ≡ b → harvest rd H n (suc q) ≡ harvest rd H' n (suc q)
        → cond b (harvest rd H n (suc q)) (H q ∷ harvest rd H n (suc q)) ≡ cond b (harvest rd H' n (suc q)) (H' q ∷ harvest rd H' n (suc q))
    go true e ih = ih
    go false e ih = let k = f q (omega arith) e in cc

-- the worst counts of a sheet that is fed `feed`
pub record Counted (ops : List Kind) (feed : Whole) (W : ℕ → ℕ) : Type 0 where
  pub fed : (q : ℕ) → find (λ κ. gives κ q) ops ≡ none → length (feed q) ≤ W q
  pub eqs : (i : ℕ) → i < length ops → WEq (get_or ops i blank) W
  pub small : (q : ℕ) → W q ≤ 64

module _ (I Q : ℕ) (ops : List Kind) (acc : Accepted I Q ops) (feed : Whole) where
  pub worst : (W : ℕ → ℕ) → ((q : ℕ) → find (λ κ. gives κ q) ops ≡ none → length (feed q) ≤ W q)
      → ((i : ℕ) → i < length ops → WEq (get_or ops i blank) W)
      → (bd : ℕ) → ((q : ℕ) → W q ≤ bd) → Worst (sheet_of I Q ops acc) feed nought bd W
  unfolding sheet_of
  worst W f w bd s = record {
    fed = f;
    grow = λ i xs t q d. let r = find_some (λ κ. gives κ q) ops i blank d in
        subst (λ (o : Op Item ℤ). length (tput o nought q xs) ≤ W q) (sym (op_at_lem ops i r.0))
        (grows W xs (get_or ops i blank) (w i r.0) (acc.good i r.0)
        (λ p h. subst (λ (o : Op Item ℤ). length (ttake o nought p xs) ≤ W p) (op_at_lem ops i r.0)
        (t p (hit I Q ops acc i r.0 p h))) q r.1);
    small = s;
  }

  abbrev pub fire : ℕ → State Item ℤ → Option (State Item ℤ)
  fire = step 64 24 (sheet_of I Q ops acc).reader (sheet_of I Q ops acc).op

  abbrev pub start : State Item ℤ
  start = record { queue = feed; var = nought }

  not_own : (k : ℕ) → held_by ops k ≡ false → (i : ℕ) → (op_at ops i).own k ≡ false
  not_own k h i = go ((op_at ops i).own k) refl
    where
      go : (b : Bool) → (op_at ops i).own k ≡ b → b ≡ false
      go true e =
          let r = inside ops i (λ o. o.own k) (empty_own k) e in
          let z = find_none (λ κ. holds κ k) ops i blank (unheld k ops h) r.0 in
          let y : ◌≡◌ {A = ℕ} 0 1 = cc in absurd (omega arith)
      go false e = refl

  -- where any order of firings comes to rest
  pub record Rested (t : State Item ℤ) (m : ℕ) (W : ℕ → ℕ) : Type 0 where
    pub H : Whole
    pub sol : Sol (sheet_of I Q ops acc) feed nought H t.var
    pub outs : (q : ℕ) → read_by ops q ≡ false → t.queue q ≡ H q
    pub idle : (k : ℕ) → held_by ops k ≡ false → t.var k ≡ pos 0
    pub fired : m ≤ sum Q (λ p. weight (find (λ κ. takes_from κ p) ops) (W p))

  pub rests : (W : ℕ → ℕ) → Counted ops feed W → ((q : ℕ) → I ≤ q → feed q ≡ []) → {m : ℕ} (t : State Item ℤ) → Run fire m start t
      → Rest fire t → Rested t m W
  unfolding sheet_of
  rests W c z t run rest =
      let r = rested (sheet_of I Q ops acc) feed nought
      (λ q i e. let f = find_some (λ κ. gives κ q) ops i blank e in z q (acc.inputs i q f.0 f.1)) 64 24 W
      (worst W c.fed c.eqs 64 c.small) t run rest in
      record { H = r.0; sol = r.1; outs = λ q h. r.2 q (unread q ops h); idle = λ k h. r.4 k (not_own k h); fired = r.3 }

-- one sheet's solutions give the other's
pub record Refines (I Q V' : ℕ) (ops : List Kind) (Q₂ : ℕ) (ops₂ : List Kind) : Type 0 where
  pub to : (H : Whole) (u : ℕ → ℤ) → All (λ κ. Eq κ H u) ops
      → (H₂ : Whole) × (u₂ : ℕ → ℤ) × All (λ κ. Eq κ H₂ u₂) ops₂ × ((q : ℕ) → q < I → H₂ q ≡ H q) ×
      (harvest (read_by ops₂) H₂ Q₂ 0 ≡ harvest (read_by ops) H Q 0) × ((k : ℕ) → k < V' → u₂ k ≡ u k)
  pub named : (k : ℕ) → k < V' → held_by ops₂ k ≡ held_by ops k

-- none, or one after another
pub refines_none : (I Q V' : ℕ) (ops : List Kind) → Refines I Q V' ops Q ops
refines_none I Q V' ops = record { to = λ H u e. (H, u, e, (λ q h. refl), refl, (λ k h. refl)); named = λ k h. refl }

pub refines_more : (I Q V' Q₂ V₂ Q₃ : ℕ) (ops ops₂ ops₃ : List Kind) → V' ≤ V₂ → Refines I Q V' ops Q₂ ops₂
    → Refines I Q₂ V₂ ops₂ Q₃ ops₃ → Refines I Q V' ops Q₃ ops₃
refines_more I Q V' Q₂ V₂ Q₃ ops ops₂ ops₃ l r s = record {
  to = λ H u e. let a = r.to H u e in let b = s.to a.0 a.1 a.2 in
      (b.0, b.1, b.2, (λ q h. b.3 q h ∙ a.3 q h), b.4 ∙ a.4, (λ k h. b.5 k (omega arith) ∙ a.5 k h));
  named = λ k h. s.named k (omega arith) ∙ r.named k h;
}

-- demand 3
module _ (I Q V' Q₂ : ℕ) (ops ops₂ : List Kind) (acc : Accepted I Q ops) (acc₂ : Accepted I Q₂ ops₂) (ref : Refines I Q V' ops Q₂ ops₂)
    (feed : Whole) (inputs-only : (q : ℕ) → I ≤ q → feed q ≡ [])
    (W W₂ : ℕ → ℕ) (c : Counted ops feed W) (c₂ : Counted ops₂ feed W₂) where
  pub demand_three : {m m₂ : ℕ} (t t₂ : State Item ℤ) → Run (fire I Q ops acc feed) m (start I Q ops acc feed) t
      → Rest (fire I Q ops acc feed) t
      → Run (fire I Q₂ ops₂ acc₂ feed) m₂ (start I Q₂ ops₂ acc₂ feed) t₂ → Rest (fire I Q₂ ops₂ acc₂ feed) t₂
      → (harvest (read_by ops₂) t₂.queue Q₂ 0 ≡ harvest (read_by ops) t.queue Q 0) × ((k : ℕ) → k < V' → t₂.var k ≡ t.var k)
  unfolding sheet_of
  demand_three {m} {m₂} t t₂ run rest run₂ rest₂ = (
    harvest_same (read_by ops₂) t₂.queue b.H Q₂ 0 (λ q l h. b.outs q h)
        ∙ harvest_same (read_by ops₂) b.H r.0 Q₂ 0 (λ q l h. same_h q (omega arith)) ∙ r.4
        ∙ sym (harvest_same (read_by ops) t.queue a.H Q 0 (λ q l h. a.outs q h)),
    λ k l. vars k l (held_by ops₂ k) refl,
  )
    where
      a : Rested I Q ops acc feed t m W
      a = rests I Q ops acc feed W c inputs-only t run rest

      b : Rested I Q₂ ops₂ acc₂ feed t₂ m₂ W₂
      b = rests I Q₂ ops₂ acc₂ feed W₂ c₂ inputs-only t₂ run₂ rest₂

      r : (H₂ : Whole) × (u₂ : ℕ → ℤ) × All (λ κ. Eq κ H₂ u₂) ops₂ × ((q : ℕ) → q < I → H₂ q ≡ a.H q) ×
          (harvest (read_by ops₂) H₂ Q₂ 0 ≡ harvest (read_by ops) a.H Q 0) × ((k : ℕ) → k < V' → u₂ k ≡ t.var k)
      r = ref.to a.H t.var (all_of ops blank (eqs I Q ops acc feed a.H t.var a.sol))

      undefined : (q : ℕ) → q < I → find (λ κ. gives κ q) ops ≡ none
      undefined q h = go (find (λ κ. gives κ q) ops) refl
        where
          go : (o : Option ℕ) → find (λ κ. gives κ q) ops ≡ o → o ≡ none
          go none e = refl
          go (some i) e = let f = find_some (λ κ. gives κ q) ops i blank e in absurd (omega (arith, acc.inputs i q f.0 f.1))

      s₂ : Sol (sheet_of I Q₂ ops₂ acc₂) feed nought r.0 r.1
      s₂ = solves I Q₂ ops₂ acc₂ feed r.0 r.1
          (λ q l e. let h = acc₂.defined q l e in r.3 q h ∙ a.sol.fixed q (omega (arith, acc.fit)) (undefined q h))
          (λ i h. all_at r.2 i blank h)

      same_h : (q : ℕ) → q < Q₂ → b.H q ≡ r.0 q
      same_h q l = same_history (sheet_of I Q₂ ops₂ acc₂) feed nought b.H r.0 t₂.var r.1 b.sol s₂ q l

      vars : (k : ℕ) → k < V' → (o : Bool) → held_by ops₂ k ≡ o → t₂.var k ≡ t.var k
      vars k l true h =
          let i = held k ops₂ h in
          same_vars (sheet_of I Q₂ ops₂ acc₂) feed nought b.H r.0 t₂.var r.1 b.sol s₂ k i.0
          (ap (λ (o : Op Item ℤ). o.own k) (op_at_lem ops₂ i.0 i.1) ∙ i.2) ∙ r.5 k l
      vars k l false h = b.idle k h ∙ sym (a.idle k (sym (ref.named k l) ∙ h))
