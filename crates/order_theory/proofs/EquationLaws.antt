-- What a renaming of queues and the three rewritings do to the equations.
-- Assumes nothing.
use mathlib.Core.Path.{◌≡◌, refl, ap, sym, ◌∙◌, fun_ext}
use mathlib.Core.Bool.{Bool, true, false, ◌||◌}
use mathlib.Core.Option.{Option}
use mathlib.Core.List.{List, [], ◌++◌, append-nil, map}
use Prim.Native.Nat.{ℕ, ◌<◌}
use native.Mathlib.Omega.{arith}
use lib.ListN.{length, length-map, get_or, get_or-map}
use lib.IntN.{ℤ, pos}
use Rattle.base_lists.proofs.Build.{never}
use Rattle.base_lists.proofs.Places.{get_d_any}
use Rattle.order_theory.proofs.Steps.{Item, Step, names, lout, lvars, Fused, fuse}
use Rattle.order_theory.proofs.Deal.{share_of, turn, share_map, turn_map, turn_lt}
use Rattle.order_theory.proofs.Equations.{Kind, line, latest, double, deal, gather, nought, Whole, Eq, Queues, Variables, Ways, ren, names_append, bind_o}
use Rattle.order_theory.proofs.Equations.{pure}
use Rattle.order_theory.proofs.Equations.{pruns, sift, sift_sift, lout_pure, pure_names, total, image, lout_total, total_names}

get_or_ren : (ρ : ℕ → ℕ) (l : List ℕ) (j : ℕ) → j < length l → get_or (map ρ l) j 0 ≡ ρ (get_or l j 0)
get_or_ren ρ l j h = get_d_any (map ρ l) j 0 (ρ 0) (rw (length-map l ρ) h) ∙ get_or-map ρ l j 0

-- queues renamed, and contents that agree where the operator looks
pub eq_ren : (κ : Kind) (ρ : ℕ → ℕ) (H H' : Whole) (u u' : ℕ → ℤ) → Ways κ → Queues κ (λ r. H' (ρ r) ≡ H r)
    → Variables κ (λ k. u' k ≡ u k) → Eq κ H u → Eq (ren ρ κ) H' u'
unfolding Eq Queues Variables ren Ways
eq_ren (line p o ss) ρ H H' u u' w q v e = rw (q.0, q.1) (e.0, λ k h. v k h ∙ e.1 k h)
eq_ren (latest p k f) ρ H H' u u' w q v e = rw (q, v) e
eq_ren (double p o o') ρ H H' u u' w q v e = rw (q.0, q.1, q.2) e
eq_ren (deal c p os) ρ H H' u u' w q v e = rw (q.0, v, length-map os ρ) ((λ j h. ap H' (get_or_ren ρ os j h) ∙ q.1 j h ∙ e.0 j h), e.1)
eq_ren (gather c o is) ρ H H' u u' w q v e =
    rw (q.0, v, length-map is ρ) (
      (λ j h. ((e.0 j h).0, (e.0 j h).1 ∙ sym (ap H' (get_or_ren ρ is j h) ∙ q.1 j h))),
      e.1
          ∙ sym (ap H' (get_or_ren ρ is (turn (length is) 0 (H o)) (turn_lt (length is) 0 (H o) w))
          ∙ q.1 (turn (length is) 0 (H o)) (turn_lt (length is) 0 (H o) w)),
      e.2,
    )

-- fuse
pub fuse_eq : (p m o : ℕ) (a b : List Step) (H : Whole) (u : ℕ → ℤ) → ((i : ℕ) → names a i ≡ true → names b i ≡ false)
    → ((i : ℕ) → names b i ≡ true → names a i ≡ false)
    → Eq (line p m a) H u → Eq (line m o b) H u → Eq (line p o (a ++ b)) H u
unfolding Eq
fuse_eq p m o a b H u ab ba ea eb =
    (eb.0 ∙ ap (lout b nought) ea.0 ∙ sym f.out, λ k h. each k (names a k) refl (names b k) refl (rw names_append at h))
  where
    f : Fused a b ab ba nought nought nought (H p)
    f = fuse a b ab ba (H p) nought nought nought (λ i e. refl) (λ i e. refl)

    each : (k : ℕ) (x : Bool) → names a k ≡ x → (y : Bool) → names b k ≡ y → (names a k || names b k) ≡ true
        → u k ≡ lvars (a ++ b) nought (H p) k
    each k true ex y ey h = ea.1 k ex ∙ sym (f.first k ex)
    each k false ex true ey h = eb.1 k ey ∙ ap (λ (l : List Item). lvars b nought l k) ea.0 ∙ sym (f.second k ey)
    each k false ex false ey h = let z : ◌≡◌ {A = ℕ} 0 1 = cc in absurd (omega arith)

lout_two : (a b : List Step) (v w : ℕ → ℤ) (xs : List Item) → pure a ≡ true → pure b ≡ true
    → lout b w (lout a v xs) ≡ sift (λ x. bind_o (pruns a x) (pruns b)) xs
lout_two a b v w xs pa pb = lout_pure b w (lout a v xs) pb ∙ ap (sift (pruns b)) (lout_pure a v xs pa) ∙ sift_sift (pruns a) (pruns b) xs

-- reorder: two step lists that commute item by item
pub reorder_eq : (p m o : ℕ) (a b : List Step) (H H' : Whole) (u : ℕ → ℤ) → pure a ≡ true → pure b ≡ true
    → ((x : Item) → bind_o (pruns a x) (pruns b) ≡ bind_o (pruns b x) (pruns a))
    → H' p ≡ H p → H' o ≡ H o → H' m ≡ lout b nought (H p)
    → Eq (line p m a) H u → Eq (line m o b) H u → Eq (line p m b) H' u × Eq (line m o a) H' u
unfolding Eq
reorder_eq p m o a b H H' u pa pb c hp ho hm ea eb = (
  (rw (hp, hm), λ k h. no_name b pb k h),
  (
    ho ∙ eb.0 ∙ ap (lout b nought) ea.0 ∙ lout_two a b nought nought (H p) pa pb
        ∙ ap (λ (f : Item → Option Item). sift f (H p)) (fun_ext c)
        ∙ sym (lout_two b a nought nought (H p) pb pa) ∙ ap (lout a nought) (sym hm),
    λ k h. no_name a pa k h,
  ),
)
  where
    no_name : (ss : List Step) → pure ss ≡ true → (k : ℕ) → names ss k ≡ true → {A : Type 0} → A
    no_name ss h k e = let g = pure_names ss k h in let z : ◌≡◌ {A = ℕ} 0 1 = cc in absurd (omega arith)

-- the three equations of a split, for new contents H' that hold on way j what is dealt, and behind its line that, mapped
module _ (p o c d : ℕ) (os is : List ℕ) (ss : List Step) (H H' : Whole) (u u' : ℕ → ℤ) (t : total ss ≡ true) (same : length is ≡ length os)
    (hp : H' p ≡ H p) (ho : H' o ≡ H o) (hd : (j : ℕ) → j < length os → H' (get_or os j 0) ≡ share_of (length os) j 0 (H p))
    (hm : (j : ℕ) → j < length os → H' (get_or is j 0) ≡ map (image ss) (share_of (length os) j 0 (H p)))
    (pos-ways : 0 < length os)
    (uc : u' c ≡ pos (turn (length os) 0 (H p))) (ud : u' d ≡ pos (turn (length os) 0 (H p))) (e : Eq (line p o ss) H u) where
  pub split_deal : Eq (deal c p os) H' u'
  unfolding Eq
  split_deal = rw hp (hd, uc)

  pub split_line : (j : ℕ) → j < length os → Eq (line (get_or os j 0) (get_or is j 0) ss) H' u'
  unfolding Eq
  split_line j h = (
    hm j h ∙ ap (map (image ss)) (sym (hd j h))
        ∙ sym (lout_total ss nought (H' (get_or os j 0)) t),
    λ k n. never (sym (total_names ss k t) ∙ n),
  )

  whole : H' o ≡ map (image ss) (H p)
  unfolding Eq
  whole = ho ∙ e.0 ∙ lout_total ss nought (H p) t

  pub split_gather : Eq (gather d o is) H' u'
  unfolding Eq
  split_gather = rw (same, whole, turn_map (image ss) (length os) 0 (H p)) (
    (λ j h. ([], append-nil (share_of (length os) j 0 (map (image ss) (H p))) ∙ at j h)),
    at (turn (length os) 0 (H p)) (turn_lt (length os) 0 (H p) pos-ways),
    ud,
  )
    where
      at : (j : ℕ) → j < length os → share_of (length os) j 0 (map (image ss) (H p)) ≡ H' (get_or is j 0)
      at j h = share_map (image ss) (length os) j 0 (H p) ∙ sym (hm j h)
