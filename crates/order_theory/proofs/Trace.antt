-- One operator on its own: what it has taken, what it has put and its variables after a list of items, in the order taken.
-- Assumes nothing.
use mathlib.Core.Path.{◌≡◌, refl, ap, sym, ◌∙◌, subst}
use mathlib.Core.Bool.{Bool, true, false}
use mathlib.Core.Option.{Option, some, none}
use mathlib.Core.List.{List, [], ◌∷◌, ◌++◌, head?, append_assoc, append-nil}
use Prim.Native.Nat.{ℕ}
use native.Mathlib.Omega.{arith}
use lib.Dec.{eqb}
use borrow.Author.Tests.{eq-eqb}
use Rattle.order_theory.proofs.Model.{Op, Vars, push, pop}

module _ {Item : Type 0} where
  abbrev pub mark : Bool → Item → Option Item
  mark true x = some x
  mark false x = none

  abbrev pub cons? : Option Item → List Item → List Item
  cons? none l = l
  cons? (some x) l = x ∷ l

  cons_push : (o r : Option Item) (l : List Item) → cons? o (push r l) ≡ push r (cons? o l)
  cons_push none r l = refl
  cons_push (some x) none l = refl
  cons_push (some x) (some y) l = refl

  cons_nil : (o : Option Item) → cons? o [] ≡ push o []
  cons_nil none = refl
  cons_nil (some x) = refl

  -- an item goes from the queue to what has been taken, and another may come in behind
  pub shift : (f : Bool) (o : Option Item) (h l : List Item) (x : Item) → (f ≡ true → head? l ≡ some x)
      → push (mark f x) h ++ push o (pop f l) ≡ push o (h ++ l)
  shift true o h [] x e = let k = e refl in let z : ◌≡◌ {A = ℕ} 0 1 = cc in absurd (omega arith)
  shift true none h (y ∷ l) x e = let k = e refl in let m : x ≡ y = cc in rw m (append_assoc h (y ∷ []) l)
  shift true (some z) h (y ∷ l) x e =
      let k = e refl in let m : x ≡ y = cc in rw m (append_assoc h (y ∷ []) (l ++ (z ∷ [])) ∙ sym (append_assoc h (y ∷ l) (z ∷ [])))
  shift false none h l x e = refl
  shift false (some z) h l x e = sym (append_assoc h l (z ∷ []))

module _ {Item Val : Type 0} (o : Op Item Val) where
  unfoldable pub tv : Vars Item Val → List Item → Vars Item Val
  tv v [] = v
  tv v (x ∷ xs) = tv (o.next x v) xs

  unfoldable pub tput : Vars Item Val → ℕ → List Item → List Item
  tput v q [] = []
  tput v q (x ∷ xs) = cons? (o.puts x v q) (tput (o.next x v) q xs)

  unfoldable pub ttake : Vars Item Val → ℕ → List Item → List Item
  ttake v p [] = []
  ttake v p (x ∷ xs) = cons? (mark (eqb p (o.sel v)) x) (ttake (o.next x v) p xs)

  pub tv_snoc : (v : Vars Item Val) (xs : List Item) (x : Item) → tv v (xs ++ (x ∷ [])) ≡ o.next x (tv v xs)
  unfolding tv
  tv_snoc v [] x = refl
  tv_snoc v (y ∷ xs) x = tv_snoc (o.next y v) xs x

  pub tput_snoc : (v : Vars Item Val) (q : ℕ) (xs : List Item) (x : Item)
      → tput v q (xs ++ (x ∷ [])) ≡ push (o.puts x (tv v xs) q) (tput v q xs)
  unfolding tv tput
  tput_snoc v q [] x = cons_nil (o.puts x v q)
  tput_snoc v q (y ∷ xs) x =
      ap (cons? (o.puts y v q)) (tput_snoc (o.next y v) q xs x)
      ∙ cons_push (o.puts y v q) (o.puts x (tv (o.next y v) xs) q) (tput (o.next y v) q xs)

  pub ttake_snoc : (v : Vars Item Val) (p : ℕ) (xs : List Item) (x : Item)
      → ttake v p (xs ++ (x ∷ [])) ≡ push (mark (eqb p (o.sel (tv v xs))) x) (ttake v p xs)
  unfolding tv ttake
  ttake_snoc v p [] x = cons_nil (mark (eqb p (o.sel v)) x)
  ttake_snoc v p (y ∷ xs) x =
      ap (cons? (mark (eqb p (o.sel v)) y)) (ttake_snoc (o.next y v) p xs x)
      ∙ cons_push (mark (eqb p (o.sel v)) y) (mark (eqb p (o.sel (tv (o.next y v) xs))) x) (ttake (o.next y v) p xs)

-- two lists of items that an operator could have taken from the same queues, each until it found its next queue empty, are the same
module _ {Item : Type 0} where
  pop_cons : (b : Bool) (x : Item) (l r : List Item) → pop b (cons? (mark b x) l ++ r) ≡ l ++ r
  pop_cons true x l r = refl
  pop_cons false x l r = refl

-- xs can be taken from the queues H
abbrev pub Fits : {Item Val : Type 0} (o : Op Item Val) (R : ℕ → Type 0) → Vars Item Val → (ℕ → List Item) → List Item → Type 0
Fits {Item} o R v H xs = (p : ℕ) → R p → (r : List Item) × (ttake o v p xs ++ r ≡ H p)

-- and nothing more
abbrev pub Ends : {Item Val : Type 0} (o : Op Item Val) → Vars Item Val → (ℕ → List Item) → List Item → Type 0
Ends o v H xs = ttake o v (o.sel (tv o v xs)) xs ≡ H (o.sel (tv o v xs))

module _ {Item Val : Type 0} (o : Op Item Val) (R : ℕ → Type 0) (within : (v : Vars Item Val) → R (o.sel v)) where
  cons_not_nil : (x : Item) (l : List Item) → x ∷ l ≡ [] → ⊥
  cons_not_nil x l e = let z : ◌≡◌ {A = ℕ} 0 1 = cc in omega arith

  ttake_here : (v : Vars Item Val) (x : Item) (xs : List Item) → ttake o v (o.sel v) (x ∷ xs) ≡ x ∷ ttake o (o.next x v) (o.sel v) xs
  unfolding ttake
  ttake_here v x xs = rw (eq-eqb (o.sel v) (o.sel v) refl)

  fits_tail : (v : Vars Item Val) (H : ℕ → List Item) (x : Item) (xs : List Item) → Fits o R v H (x ∷ xs)
      → Fits o R (o.next x v) (λ p. pop (eqb p (o.sel v)) (H p)) xs
  unfolding ttake
  fits_tail v H x xs f p r =
      ((f p r).0, sym (pop_cons (eqb p (o.sel v)) x (ttake o (o.next x v) p xs) (f p r).0) ∙ ap (pop (eqb p (o.sel v))) (f p r).1)

  ends_tail : (v : Vars Item Val) (H : ℕ → List Item) (x : Item) (xs : List Item) → Ends o v H (x ∷ xs)
      → Ends o (o.next x v) (λ p. pop (eqb p (o.sel v)) (H p)) xs
  unfolding ttake tv
  ends_tail v H x xs e =
      let p = o.sel (tv o (o.next x v) xs) in
      sym (append-nil (ttake o (o.next x v) p xs)) ∙ sym (pop_cons (eqb p (o.sel v)) x (ttake o (o.next x v) p xs) [])
      ∙ ap (λ (l : List Item). pop (eqb p (o.sel v)) l) (append-nil (cons? (mark (eqb p (o.sel v)) x) (ttake o (o.next x v) p xs)) ∙ e)

  starts : (v : Vars Item Val) (H : ℕ → List Item) (x : Item) (xs : List Item) → Fits o R v H (x ∷ xs)
      → (t : List Item) × (H (o.sel v) ≡ x ∷ t)
  starts v H x xs f =
      let h = f (o.sel v) (within v) in
      (ttake o (o.next x v) (o.sel v) xs ++ h.0, sym h.1 ∙ ap (λ (l : List Item). l ++ h.0) (ttake_here v x xs))

  pub one_trace : (v : Vars Item Val) (H : ℕ → List Item) (xs ys : List Item) → Fits o R v H xs → Ends o v H xs → Fits o R v H ys
      → Ends o v H ys → xs ≡ ys
  unfolding tv ttake
  one_trace v H [] [] fx ex fy ey = refl
  one_trace v H [] (y ∷ ys) fx ex fy ey = let h = starts v H y ys fy in absurd (cons_not_nil y h.0 (sym h.1 ∙ sym ex))
  one_trace v H (x ∷ xs) [] fx ex fy ey = let h = starts v H x xs fx in absurd (cons_not_nil x h.0 (sym h.1 ∙ sym ey))
  one_trace v H (x ∷ xs) (y ∷ ys) fx ex fy ey =
      let a = starts v H x xs fx in
      let b = starts v H y ys fy in
      let e : y ≡ x = cc in
      let fy' : Fits o R v H (x ∷ ys) = subst (λ (z : Item). Fits o R v H (z ∷ ys)) e fy in
      let ey' : Ends o v H (x ∷ ys) = subst (λ (z : Item). Ends o v H (z ∷ ys)) e ey in
      let ih = one_trace (o.next x v) (λ p. pop (eqb p (o.sel v)) (H p)) xs ys (fits_tail v H x xs fx) (ends_tail v H x xs ex)
      (fits_tail v H x ys fy') (ends_tail v H x ys ey') in
      cc

-- what an operator has done of itself, once it can do no more, to queues that have ever held H: xs is what it took
pub record OpSol {Item Val : Type 0} (o : Op Item Val) (R : ℕ → Type 0) (v : Vars Item Val) (H : ℕ → List Item)
    (u : Vars Item Val) : Type 0 where
  pub tr : List Item
  pub takes : Fits o R v H tr
  pub ends : Ends o v H tr
  pub puts : (q : ℕ) → o.outs q ≡ true → H q ≡ tput o v q tr
  pub vars : (k : ℕ) → o.own k ≡ true → u k ≡ tv o v tr k
