-- A queue that goes, in an operator's places and in its list of queues; and an operator that goes out of a list.
-- Assumes nothing.
use mathlib.Core.Path.{◌≡◌, refl, sym, ap, ap₂, ◌∙◌}
use mathlib.Core.Logic.{⊎_elim}
use mathlib.Core.Bool.{Bool, cond}
use mathlib.Core.List.{List, [], ◌∷◌, ◌++◌, map}
use Prim.Native.Nat.{ℕ, zero, suc, ◌+◌, ◌-◌, ◌<◌, ◌≤◌}
use native.Mathlib.Numerals.{add-one}
use native.Mathlib.Omega.{arith}
use lib.ListN.{length, get_or, take, drop, length-map, get_or-map}
use lib.Seq.{length-take-le, get_or-take}
use borrow.Author.Tests.{lt-ltb, le-ltb}
use Rattle.base_lists.specs.Lists.{build, pad}
use Rattle.base_lists.proofs.Build.{order, build_length, build_ext, build_all, build_map}
use Rattle.sheet_step.specs.declared.Step.{Step}
use Rattle.sheet_operator.specs.Op.{Op, line, latest, double, deal, gather}
use Rattle.sheet_operator.specs.Memory.{PLACES, memory}
use Rattle.sheet_operator.specs.declared.Kind.{Kind}
use Rattle.sheet_operator.specs.declared.Operator.{Operator}
use Rattle.sheet.specs.Sheet.{missing}
use Rattle.rewrite_rules.specs.Rewrite.{fallen, lowered}
use Rattle.rewrite_fuse.specs.Working.{without, skip, lowered_in}

-- the place where element k of what is left stood
skip_below : (j k : ℕ) → k < j → k ≡ skip j k
skip_below j k h = sym (ap (λ (b : Bool). cond b k (k + 1)) (lt-ltb k j h))

skip_past : (j k : ℕ) → j ≤ k → k + 1 ≡ skip j k
skip_past j k h = sym (ap (λ (b : Bool). cond b k (k + 1)) (le-ltb k j h))

-- 0 stays
fallen_zero : (m : ℕ) → fallen m 0 ≡ 0
fallen_zero m = ap (λ (b : Bool). cond b (0 - 1) 0) (le-ltb m 0 (omega arith))

pad_fallen : (m n : ℕ) (l : List ℕ) → map (fallen m) (pad n 0 l) ≡ pad n 0 (map (fallen m) l)
pad_fallen m zero l = refl
pad_fallen m (suc n) [] = ap₂ (λ (x : ℕ) (r : List ℕ). x ∷ r) (fallen_zero m) (pad_fallen m n [])
pad_fallen m (suc n) (x ∷ l) = ap (λ (r : List ℕ). fallen m x ∷ r) (pad_fallen m n l)

lowered_eq : (k : Kind) (v f : ℕ) (ss : List Step) {n n' : ℕ} {ps ps' qs qs' : List ℕ} → n ≡ n' → ps ≡ ps' → qs ≡ qs' →
    ◌≡◌ {A = Operator} (record { kind = k; count = n; variable = v; field = f; ins = ps; outs = qs; steps = ss })
    (record { kind = k; count = n'; variable = v; field = f; ins = ps'; outs = qs'; steps = ss })
lowered_eq k v f ss a b c = rw (a, b, c)

-- an operator's places without the queue are the places of the operator without it
pub lowered_memory : (m : ℕ) (o : Op) → lowered_in m (memory o) ≡ memory (lowered m o)
lowered_memory m (line p q ss) = lowered_eq _ 0 0 _ refl (pad_fallen m PLACES (p ∷ [])) (pad_fallen m PLACES (q ∷ []))
lowered_memory m (latest p v f) = lowered_eq _ v f _ refl (pad_fallen m PLACES (p ∷ [])) (pad_fallen m PLACES [])
lowered_memory m (double p q r) = lowered_eq _ 0 0 _ refl (pad_fallen m PLACES (p ∷ [])) (pad_fallen m PLACES (q ∷ r ∷ []))
lowered_memory m (deal c p qs) = lowered_eq _ c 0 _ (sym (length-map qs (fallen m))) (pad_fallen m PLACES (p ∷ [])) (pad_fallen m PLACES qs)
lowered_memory m (gather c q ps) = lowered_eq _ c 0 _ (sym (length-map ps (fallen m))) (pad_fallen m PLACES ps) (pad_fallen m PLACES (q ∷ []))

pub all_lowered : (m : ℕ) (os : List Op) → map (lowered_in m) (map memory os) ≡ map memory (map (lowered m) os)
all_lowered m [] = refl
all_lowered m (o ∷ os) = ap₂ (λ (x : Operator) (r : List Operator). x ∷ r) (lowered_memory m o) (all_lowered m os)

-- a list without element j, element by element
module _ {A : Type 0} where
  skip_next : (x : A) (l : List A) (j k : ℕ) (d : A) → get_or l (skip j k) d ≡ get_or (x ∷ l) (skip (suc j) (suc k)) d
  skip_next x l j k d =
      ⊎_elim
      (λ (h : k < j).
      ap (λ (b : Bool). get_or l (cond b k (k + 1)) d) (lt-ltb k j h)
      ∙ sym (ap (λ (b : Bool). get_or (x ∷ l) (cond b (suc k) (suc k + 1)) d) (lt-ltb (suc k) (suc j) (omega arith))))
      (λ (h : j ≤ k).
      ap (λ (b : Bool). get_or l (cond b k (k + 1)) d) (le-ltb k j h)
      ∙ ap (λ (i : ℕ). get_or l i d) (add-one k)
      ∙ sym
      (ap (λ (b : Bool). get_or (x ∷ l) (cond b (suc k) (suc k + 1)) d) (le-ltb (suc k) (suc j) (omega arith))
      ∙ ap (λ (i : ℕ). get_or (x ∷ l) i d) (add-one (suc k))))
      (order k j)

  pub without_build : (l : List A) (j n : ℕ) (d : A) → j < length l → length l ≡ n + 1 → without j l ≡ build n (λ (k : ℕ). get_or l (skip j k) d)
  without_build [] j n d h e = absurd (omega arith)
  without_build (x ∷ l) zero n d h e =
      sym (build_all l d n (omega arith))
      ∙ build_ext n (λ (k : ℕ). get_or l k d) (λ (k : ℕ). get_or (x ∷ l) (skip 0 k) d)
      (λ k b. sym (ap (λ (c : Bool). get_or (x ∷ l) (cond c k (k + 1)) d) (le-ltb k 0 (omega arith)) ∙ ap (λ (i : ℕ). get_or (x ∷ l) i d) (add-one k)))
  without_build (x ∷ l) (suc j) zero d h e = absurd (omega arith)
  without_build (x ∷ l) (suc j) (suc n) d h e =
      ap (λ (i : ℕ). x ∷ (take j l ++ drop i (x ∷ l))) (add-one (suc j))
      ∙ ap (λ (i : ℕ). x ∷ (take j l ++ drop i l)) (sym (add-one j))
      ∙ ap₂ (λ (y : A) (r : List A). y ∷ r)
      (sym (ap (λ (c : Bool). get_or (x ∷ l) (cond c 0 1) d) (lt-ltb 0 (suc j) (omega arith))))
      (without_build l j n d (omega arith) (omega arith)
      ∙ build_ext n (λ (k : ℕ). get_or l (skip j k) d) (λ (k : ℕ). get_or (x ∷ l) (skip (suc j) (suc k)) d) (λ k b. skip_next x l j k d))

  pub without_length : (l : List A) (j n : ℕ) (d : A) → j < length l → length l ≡ n + 1 → length (without j l) ≡ n
  without_length l j n d h e = ap length (without_build l j n d h e) ∙ build_length n (λ (k : ℕ). get_or l (skip j k) d)

pub map_without : {A B : Type 0} (f : A → B) (l : List A) (j : ℕ) (d : A) → j < length l → map f (without j l) ≡ without j (map f l)
map_without {A} {B} f l j d h =
    let n = length l - 1 in
    let e : length l ≡ n + 1 = omega arith in
    let m = length-map l f in
    ap (map f) (without_build l j n d h e) ∙ build_map n f (λ (k : ℕ). get_or l (skip j k) d)
    ∙ build_ext n (λ (k : ℕ). f (get_or l (skip j k) d)) (λ (k : ℕ). get_or (map f l) (skip j k) (f d)) (λ k b. sym (get_or-map f l (skip j k) d))
    ∙ sym (without_build (map f l) j n (f d) (omega arith) (omega arith))

-- the place that element k of what is left stood at is one of the list's
skip_within : (j k n : ℕ) → k < n - 1 → skip j k < n
skip_within j k n h =
    ⊎_elim (λ (l : k < j). omega (arith, skip_below j k l)) (λ (l : j ≤ k). omega (arith, skip_past j k l)) (order k j)

-- the end of the loop that closes up the first n places
pub closed_end : (os : List Operator) (j m n : ℕ) → j < n → n ≤ length os →
    build (n - 1) (λ (k : ℕ). lowered_in m (get_or os (skip j k) missing)) ≡ map (lowered_in m) (without j (take n os))
closed_end os j m n h b =
    let len = length-take-le n os b in
    sym
    (ap (map (lowered_in m)) (without_build (take n os) j (n - 1) missing (omega arith) (omega arith))
    ∙ build_map (n - 1) (lowered_in m) (λ (k : ℕ). get_or (take n os) (skip j k) missing)
    ∙ build_ext (n - 1) (λ (k : ℕ). lowered_in m (get_or (take n os) (skip j k) missing)) (λ (k : ℕ). lowered_in m (get_or os (skip j k) missing))
    (λ k c. ap (lowered_in m) (get_or-take n os (skip j k) missing (skip_within j k n c))))
