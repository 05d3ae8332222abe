-- Operators that touch only what is theirs, and the strong diamond of two of them.
-- Assumes nothing.
use mathlib.Core.Path.{◌≡◌, refl, ap, sym, ◌∙◌, fun_ext}
use mathlib.Core.Bool.{Bool, true, false, ◌&&◌}
use mathlib.Core.Option.{Option, some, none}
use mathlib.Core.Logic.{◌⊎◌, inl, inr}
use mathlib.Core.List.{List, [], ◌∷◌, ◌++◌, head?}
use Prim.Native.Nat.{ℕ, zero, suc, ◌≤◌}
use native.Mathlib.Omega.{arith}
use lib.ListN.{length}
use lib.Dec.{eqb, ltb, T, lt→ltb}
use Rattle.base_lists.proofs.Build.{never'}
use Rattle.order_theory.proofs.Runs.{Diamond, Meet}
use borrow.Author.Tests.{eqb-true, eqb-false, ltb-true}

module _ (Item Val : Type 0) where
  abbrev pub Vars : Type 0
  Vars = ℕ → Val

  pub record State : Type 0 where
    pub queue : ℕ → List Item
    pub var : ℕ → Val

  -- what an operator is: the queues that it may put on, the variables that it names,
  -- the queue that it takes from next, what it puts where, and its variables afterwards
  pub record Op : Type 0 where
    pub outs : ℕ → Bool
    pub own : ℕ → Bool
    pub sel : Vars → ℕ
    pub puts : Item → Vars → ℕ → Option Item
    pub next : Item → Vars → Vars

  abbrev pub Agree : Op → Vars → Vars → Type 0
  Agree o v w = (i : ℕ) → o.own i ≡ true → v i ≡ w i

  pub record Local (o : Op) : Type 0 where
    pub sel_local : (v w : Vars) → Agree o v w → o.sel v ≡ o.sel w
    pub puts_local : (x : Item) (v w : Vars) → Agree o v w → (q : ℕ) → o.puts x v q ≡ o.puts x w q
    pub puts_out : (x : Item) (v : Vars) (q : ℕ) → o.outs q ≡ false → o.puts x v q ≡ none
    pub next_local : (x : Item) (v w : Vars) → Agree o v w → (i : ℕ) → o.own i ≡ true → o.next x v i ≡ o.next x w i
    pub next_frame : (x : Item) (v : Vars) (i : ℕ) → o.own i ≡ false → o.next x v i ≡ v i

  pub record Apart (a b : Op) : Type 0 where
    pub vars : (i : ℕ) → a.own i ≡ true → b.own i ≡ false
    pub queues : (q : ℕ) → a.outs q ≡ true → b.outs q ≡ false

module _ {Item : Type 0} where
  abbrev pub push : Option Item → List Item → List Item
  push none l = l
  push (some x) l = l ++ (x ∷ [])

  abbrev pub pop : Bool → List Item → List Item
  pop true [] = []
  pop true (x ∷ l) = l
  pop false l = l

  -- room for what is put, on the queues below n
  abbrev pub fits : ℕ → Option Item → List Item → Bool
  fits bd none l = true
  fits bd (some x) l = ltb (length l) bd

  unfoldable pub room : ℕ → ℕ → (ℕ → Option Item) → (ℕ → List Item) → Bool
  room bd zero p q = true
  room bd (suc n) p q = fits bd (p n) (q n) && room bd n p q

module _ {Item Val : Type 0} where
  abbrev pub after : Op Item Val → ℕ → Item → State Item Val → State Item Val
  after o p x s = record { queue = λ k. push (o.puts x s.var k) (pop (eqb k p) (s.queue k)); var = o.next x s.var }

  abbrev pub pass : Bool → State Item Val → Option (State Item Val)
  pass true t = some t
  pass false t = none

  abbrev pub gate : ℕ → ℕ → Bool → Option Item → Op Item Val → ℕ → State Item Val → Option (State Item Val)
  gate bd n false h o p s = none
  gate bd n true none o p s = none
  gate bd n true (some x) o p s = pass (room bd n (o.puts x s.var) s.queue) (after o p x s)

  unfoldable pub fire_op : ℕ → ℕ → Op Item Val → ℕ → State Item Val → Option (State Item Val)
  fire_op bd n o p s = gate bd n (eqb (o.sel s.var) p) (head? (s.queue p)) o p s

  pub record Can (bd n : ℕ) (o : Op Item Val) (p : ℕ) (x : Item) (s : State Item Val) : Type 0 where
    pub at : eqb (o.sel s.var) p ≡ true
    pub head : head? (s.queue p) ≡ some x
    pub free : room bd n (o.puts x s.var) s.queue ≡ true

  pub can_fire : (bd n : ℕ) (o : Op Item Val) (p : ℕ) (x : Item) (s : State Item Val) → Can bd n o p x s
      → fire_op bd n o p s ≡ some (after o p x s)
  unfolding fire_op
  can_fire bd n o p x s c = rw (c.at, c.head, c.free)

  pub fire_can : (bd n : ℕ) (o : Op Item Val) (p : ℕ) (s t : State Item Val) → fire_op bd n o p s ≡ some t
      → (x : Item) × Can bd n o p x s × (t ≡ after o p x s)
  unfolding fire_op
  fire_can bd n o p s t e = go (eqb (o.sel s.var) p) refl (head? (s.queue p)) refl e
    where
      no_way : {A : Type 0} → none ≡ some t → A
      no_way z = let z : ◌≡◌ {A = ℕ} 0 1 = cc in absurd (omega arith)

      go₂ : (x : Item) (b : Bool) → room bd n (o.puts x s.var) s.queue ≡ b → eqb (o.sel s.var) p ≡ true
          → head? (s.queue p) ≡ some x
          → pass b (after o p x s) ≡ some t → (x : Item) × Can bd n o p x s × (t ≡ after o p x s)
      go₂ x true f h₁ h₂ e = (x, record { at = h₁; head = h₂; free = f }, cc)
      go₂ x false f h₁ h₂ e = no_way e

      go : (b : Bool) → eqb (o.sel s.var) p ≡ b → (h : Option Item) → head? (s.queue p) ≡ h → gate bd n b h o p s ≡ some t
          → (x : Item) × Can bd n o p x s × (t ≡ after o p x s)
      go false h₁ h h₂ e = no_way e
      go true h₁ none h₂ e = no_way e
      go true h₁ (some x) h₂ e = go₂ x (room bd n (o.puts x s.var) s.queue) refl h₁ h₂ e

pub T_true : (b : Bool) → T b → b ≡ true
T_true true t = refl
T_true false t = absurd t

-- one queue: a taking and a putting by different operators may change places
module _ {Item : Type 0} where
  differ : {A : Type 0} {x : Item} → some x ≡ none → A
  differ e = let z : ◌≡◌ {A = ℕ} 0 1 = cc in absurd (omega arith)

  pub head_push : (o : Option Item) (l : List Item) (x : Item) → head? l ≡ some x → head? (push o l) ≡ some x
  head_push none l x h = h
  head_push (some y) [] x h = let z : ◌≡◌ {A = ℕ} 0 1 = cc in absurd (omega arith)
  head_push (some y) (z ∷ l) x h = h

  pub pop_push : (o : Option Item) (l : List Item) (x : Item) → head? l ≡ some x → pop true (push o l) ≡ push o (pop true l)
  pop_push none l x h = refl
  pop_push (some y) [] x h = let z : ◌≡◌ {A = ℕ} 0 1 = cc in absurd (omega arith)
  pop_push (some y) (z ∷ l) x h = refl

  push_push : (a b : Option Item) (l : List Item) → (a ≡ none) ⊎ (b ≡ none) → push a (push b l) ≡ push b (push a l)
  push_push none b l h = refl
  push_push (some x) none l h = refl
  push_push (some x) (some y) l (inl e) = differ e
  push_push (some x) (some y) l (inr e) = differ e

  pub swap : (f g : Bool) (a b : Option Item) (l : List Item) (x y : Item)
      → (f ≡ true → g ≡ false) → (f ≡ true → head? l ≡ some x) → (g ≡ true → head? l ≡ some y) → (a ≡ none) ⊎ (b ≡ none)
      → push a (pop f (push b (pop g l))) ≡ push b (pop g (push a (pop f l)))
  swap true true a b l x y n hf hg d = never' (n refl)
  swap true false a b l x y n hf hg d = ap (push a) (pop_push b l x (hf refl)) ∙ push_push a b (pop true l) d
  swap false true a b l x y n hf hg d = push_push a b (pop true l) d ∙ ap (push b) (sym (pop_push a l y (hg refl)))
  swap false false a b l x y n hf hg d = push_push a b l d

  length_pop : (b : Bool) (l : List Item) → length (pop b l) ≤ length l
  length_pop true [] = omega arith
  length_pop true (x ∷ l) = omega arith
  length_pop false l = omega arith

  -- room stays where queues lose items, and where another puts only where this one does not
  fits_pop : (bd : ℕ) (o : Option Item) (b : Bool) (l : List Item) → fits bd o l ≡ true → fits bd o (pop b l) ≡ true
  fits_pop bd none b l h = refl
  fits_pop bd (some x) b l h =
      T_true (ltb (length (pop b l)) bd) (lt→ltb (length (pop b l)) bd (omega (arith, ltb-true (length l) bd h, length_pop b l)))

  room_keep : (bd n : ℕ) (p p' : ℕ → Option Item) (q q' : ℕ → List Item)
      → ((k : ℕ) → fits bd (p k) (q k) ≡ true → fits bd (p' k) (q' k) ≡ true)
      → room bd n p q ≡ true → room bd n p' q' ≡ true
  unfolding room
  room_keep bd zero p p' q q' k h = refl
  room_keep bd (suc n) p p' q q' k h = go (fits bd (p n) (q n)) refl (λ e. room_keep bd n p p' q q' k e) h
    where
      go : (b : Bool) → fits bd (p n) (q n) ≡ b → (room bd n p q ≡ true → room bd n p' q' ≡ true) → b && room bd n p q ≡ true
          → fits bd (p' n) (q' n) && room bd n p' q' ≡ true
      go true e ih h = rw (k n e) (ih h)
      go false e ih h = never' (sym h)

module _ {Item Val : Type 0} (bd n : ℕ) (a b : Op Item Val) (la : Local Item Val a) (lb : Local Item Val b) where
  -- firing b leaves a's variables
  agree : Apart Item Val a b → (y : Item) (v : Vars Item Val) → Agree Item Val a (b.next y v) v
  agree ap y v i e = lb.next_frame y v i (ap.vars i e)

  -- what a can do it can still do after b
  pub keeps : Apart Item Val a b → (p r : ℕ) → eqb p r ≡ false → (x y : Item) (s : State Item Val)
      → Can bd n a p x s → Can bd n a p x (after b r y s)
  keeps ap p r d x y s c = record {
    at = rw (la.sel_local (b.next y s.var) s.var (agree ap y s.var)) c.at;
    head = rw d (head_push (b.puts y s.var p) (s.queue p) x c.head);
    free =
        room_keep bd n (a.puts x s.var) (a.puts x (b.next y s.var)) s.queue (after b r y s).queue
        (λ k h. each k (a.outs k) refl h) c.free;
  }
    where
      each : (k : ℕ) (o : Bool) → a.outs k ≡ o → fits bd (a.puts x s.var k) (s.queue k) ≡ true
          → fits bd (a.puts x (b.next y s.var) k) ((after b r y s).queue k) ≡ true
      each k true e h =
          rw (la.puts_local x (b.next y s.var) s.var (agree ap y s.var) k, lb.puts_out y s.var k (ap.queues k e))
          (fits_pop bd (a.puts x s.var k) (eqb k r) (s.queue k) h)
      each k false e h = rw (la.puts_out x (b.next y s.var) k e)

module _ {Item Val : Type 0} (bd n : ℕ) (a b : Op Item Val) (la : Local Item Val a) (lb : Local Item Val b) where
  -- and the two orders end in one state
  pub meets : Apart Item Val a b → Apart Item Val b a → (p r : ℕ) → eqb p r ≡ false → (x y : Item) (s : State Item Val)
      → Can bd n a p x s → Can bd n b r y s → after a p x (after b r y s) ≡ after b r y (after a p x s)
  meets ab ba p r d x y s ca cb = λ i. record { queue = fun_ext queues i; var = fun_ext (λ k. vars k (a.own k) refl (b.own k) refl) i }
    where
      v : Vars Item Val
      v = s.var

      vars : (k : ℕ) (o : Bool) → a.own k ≡ o → (o' : Bool) → b.own k ≡ o' → a.next x (b.next y v) k ≡ b.next y (a.next x v) k
      vars k true e o' e' =
          la.next_local x (b.next y v) v (λ i h. lb.next_frame y v i (ab.vars i h)) k e
          ∙ sym (lb.next_frame y (a.next x v) k (ab.vars k e))
      vars k false e true e' =
          la.next_frame x (b.next y v) k e ∙ sym (lb.next_local y (a.next x v) v (λ i h. la.next_frame x v i (ba.vars i h)) k e')
      vars k false e false e' =
          la.next_frame x (b.next y v) k e ∙ lb.next_frame y v k e' ∙ sym (la.next_frame x v k e)
          ∙ sym (lb.next_frame y (a.next x v) k e')

      one : (k : ℕ) (o : Bool) → a.outs k ≡ o → (a.puts x v k ≡ none) ⊎ (b.puts y v k ≡ none)
      one k true e = inr (lb.puts_out y v k (ab.queues k e))
      one k false e = inl (la.puts_out x v k e)

      queues : (k : ℕ) → (after a p x (after b r y s)).queue k ≡ (after b r y (after a p x s)).queue k
      queues k =
          rw (
            la.puts_local x (b.next y v) v (λ i h. lb.next_frame y v i (ab.vars i h)) k,
            lb.puts_local y (a.next x v) v
                (λ i h. la.next_frame x v i (ba.vars i h)) k,
          )
          (swap (eqb k p) (eqb k r) (a.puts x v k) (b.puts y v k) (s.queue k) x y (λ e. rw (eqb-true k p e) d)
          (λ e. rw (eqb-true k p e) ca.head) (λ e. rw (eqb-true k r e) cb.head) (one k (a.outs k) refl))

eqb_sym_false : (p r : ℕ) → eqb p r ≡ false → eqb r p ≡ false
eqb_sym_false p r e = go (eqb r p) refl
  where
    go : (b : Bool) → eqb r p ≡ b → b ≡ false
    go true h = absurd (eqb-false p r e (sym (eqb-true r p h)))
    go false h = refl

-- a sheet: which operator reads a queue, and the operators
module _ {Item Val : Type 0} (bd n : ℕ) (reader : ℕ → Option ℕ) (op : ℕ → Op Item Val) where
  abbrev pub step_at : Option ℕ → ℕ → State Item Val → Option (State Item Val)
  step_at none p s = none
  step_at (some i) p s = fire_op bd n (op i) p s

  unfoldable pub step : ℕ → State Item Val → Option (State Item Val)
  step p s = step_at (reader p) p s

  module _ (loc : (i : ℕ) → Local Item Val (op i)) (calm : (i j : ℕ) → eqb i j ≡ false → Apart Item Val (op i) (op j)) where
    pub diamond : Diamond step
    unfolding step
    diamond s t u p r e f = go (reader p) refl (reader r) refl (eqb p r) refl e f
      where
        Met : ℕ → ℕ → Type 0
        Met i j = (v : State Item Val) × (fire_op bd n (op j) r t ≡ some v) × (fire_op bd n (op i) p u ≡ some v)

        met : (i j : ℕ) (x y : Item) → eqb p r ≡ false → Can bd n (op i) p x s → t ≡ after (op i) p x s → Can bd n (op j) r y s
            → u ≡ after (op j) r y s → (b : Bool) → eqb i j ≡ b → Met i j
        met i j x y d ca et cb eu true h =
            let k : i ≡ j = eqb-true i j h in
            let h₁ : (op i).sel s.var ≡ p = eqb-true ((op i).sel s.var) p ca.at in
            let h₂ : (op j).sel s.var ≡ r = eqb-true ((op j).sel s.var) r cb.at in
            let z : p ≡ r = cc in
            absurd (eqb-false p r d z)
        met i j x y d ca et cb eu false h =
            let ij = calm i j h in
            let ji = calm j i (eqb_sym_false i j h) in
            let d' = eqb_sym_false p r d in (
              after (op j) r y (after (op i) p x s),
              ap (fire_op bd n (op j) r) et
                  ∙ can_fire bd n (op j) r y (after (op i) p x s) (keeps bd n (op j) (op i) (loc j) (loc i) ji r p d' y x s cb),
              ap (fire_op bd n (op i) p) eu
                  ∙ can_fire bd n (op i) p x (after (op j) r y s) (keeps bd n (op i) (op j) (loc i) (loc j) ij p r d x y s ca)
                  ∙ ap {B = Option (State Item Val)} some (meets bd n (op i) (op j) (loc i) (loc j) ij ji p r d x y s ca cb),
            )

        go : (m : Option ℕ) → reader p ≡ m → (l : Option ℕ) → reader r ≡ l → (b : Bool) → eqb p r ≡ b → step_at m p s ≡ some t
            → step_at l r s ≡ some u
            → Meet step p r t u
        go none hm l hl b hb e f = let z : ◌≡◌ {A = ℕ} 0 1 = cc in absurd (omega arith)
        go (some i) hm none hl b hb e f = let z : ◌≡◌ {A = ℕ} 0 1 = cc in absurd (omega arith)
        go (some i) hm (some j) hl true hb e f = let h : p ≡ r = eqb-true p r hb in inl (cc)
        go (some i) hm (some j) hl false hb e f =
            let a = fire_can bd n (op i) p s t e in
            let b = fire_can bd n (op j) r s u f in
            let m = met i j a.0 b.0 hb a.1 a.2 b.1 b.2 (eqb i j) refl in
            inr (m.0, rw hl m.1, rw hm m.2)
