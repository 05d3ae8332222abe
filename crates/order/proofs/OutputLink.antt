-- The items of the outputs are the theory's harvest, and lists of items that the theory cannot tell apart are the same.
-- Assumes nothing.
use mathlib.Core.Path.{◌≡◌, refl, sym, ap, ap₂, ◌∙◌}
use mathlib.Core.Bool.{Bool, true, false, cond, not, ◌&&◌, ◌||◌}
use mathlib.Core.List.{List, [], ◌∷◌, map}
use Prim.Native.Nat.{ℕ, zero, suc, ◌+◌, ◌≤◌, ◌<◌}
use native.Mathlib.Nat.{zero-add}
use native.Mathlib.Omega.{arith}
use lib.ListN.{length, get_or, take}
use lib.IntN.{ℤ, pos}
use borrow.Author.Tests.{lt-ltb, le-ltb}
use Rattle.base_lists.specs.Lists.{any, member}
use Rattle.base_lists.proofs.Build.{take_build, build_ext}
use Rattle.sheet_operator.specs.Op.{Op, reads}
use Rattle.sheet.specs.declared.Sheet.{Sheet}
use Rattle.sheet.specs.Answer.{accepted}
use Rattle.sheet.specs.Sheet.{view_sheet}
use Rattle.sheet.specs.Check.{check_of}
use Rattle.run_store.specs.declared.Item.{Item}
use Rattle.run_machine.specs.Machine.{Machine, is_output}
use Rattle.run_machine.specs.Numbers.{GoodM}
use Rattle.run_machine.proofs.Good.{decode_of_encode}
use Rattle.run_machine.proofs.Sound.{sound_of_accepted}
use Rattle.order_theory.proofs.Equations.{Whole}
use Rattle.order_theory.proofs.Rewrites.{read_by, harvest}
use Rattle.order.specs.Order.{kept, outputs_in, outputs}
use Rattle.order.proofs.Model.{TItem, kind_as, kinds_as, items_as, state_as, item_of, items_back}
use Rattle.order.proofs.KindLaws.{takes_member}
use Rattle.order.proofs.Held.{held}

-- ---- which queues are read

read_as : (os : List Op) (q : ℕ) → read_by (map kind_as os) q ≡ any (λ (o : Op). member q (reads o)) os
unfolding read_by
read_as [] q = refl
read_as (o ∷ os) q = ap₂ (λ (a b : Bool). a || b) (takes_member o q) (read_as os q)

-- ---- the outputs' items

none_out : (out : ℕ → Bool) (qs : List (List Item)) (q : ℕ) → ((k : ℕ) → q ≤ k → out k ≡ false) → outputs_in out qs q ≡ []
none_out out [] q h = refl
none_out out (x ∷ qs) q h =
    ap (λ (b : Bool). kept b x (outputs_in out qs (suc q))) (h q (omega arith)) ∙ none_out out qs (suc q) (λ k l. h k (omega arith))

-- the lists of n queues from q on
out_as : (out rd : ℕ → Bool) (H : Whole) (n : ℕ) (qs : List (List Item)) (q : ℕ) → n ≤ length qs →
    ((k : ℕ) → k < n → out (q + k) ≡ not (rd (q + k))) → ((k : ℕ) → q + n ≤ k → out k ≡ false) →
    ((k : ℕ) → k < n → H (q + k) ≡ items_as (get_or qs k [])) → map items_as (outputs_in out qs q) ≡ harvest rd H n q
unfolding harvest
out_as out rd H zero qs q l o f e = ap (λ (ys : List (List Item)). map items_as ys) (none_out out qs q (λ k b. f k (omega arith)))
out_as out rd H (suc n) [] q l o f e = absurd (omega arith)
out_as out rd H (suc n) (x ∷ qs) q l o f e =
    let z : q + 0 ≡ q = omega arith in
    let here : out q ≡ not (rd q) = ap out (sym z) ∙ o 0 (omega arith) ∙ ap (λ (k : ℕ). not (rd k)) z in
    let item : H q ≡ items_as x = ap H (sym z) ∙ e 0 (omega arith) in
    let s : (k : ℕ) → suc q + k ≡ q + suc k = λ k. omega arith in
    ap (λ (b : Bool). map items_as (kept b x (outputs_in out qs (suc q)))) here
    ∙ pick (rd q) item
    (out_as out rd H n qs (suc q) (omega arith) (λ k b. ap out (s k) ∙ o (suc k) (omega arith) ∙ ap (λ (j : ℕ). not (rd j)) (sym (s k)))
    (λ k b. f k (omega arith)) (λ k b. ap H (s k) ∙ e (suc k) (omega arith)))
  where
    pick : (b : Bool) → H q ≡ items_as x → map items_as (outputs_in out qs (suc q)) ≡ harvest rd H n (suc q) →
        map items_as (kept (not b) x (outputs_in out qs (suc q))) ≡ cond b (harvest rd H n (suc q)) (H q ∷ harvest rd H n (suc q))
    pick true i r = r
    pick false i r = ap₂ (λ (y : List TItem) (ys : List (List TItem)). y ∷ ys) (sym i) r

module _ (t : Sheet) (h : check_of t ≡ accepted) (m : Machine) (g : GoodM (view_sheet t) m) where
  is_output_lem : (q : ℕ) → q < t.queues → is_output (view_sheet t) q ≡ not (read_by (kinds_as (view_sheet t)) q)
  is_output_lem q l =
      ap (λ (b : Bool). b && not (any (λ (o : Op). member q (reads o)) (view_sheet t).ops)) (lt-ltb q t.queues l)
      ∙ ap not (sym (read_as (view_sheet t).ops q))

  no_output : (q : ℕ) → t.queues ≤ q → is_output (view_sheet t) q ≡ false
  no_output q l = ap (λ (b : Bool). b && not (any (λ (o : Op). member q (reads o)) (view_sheet t).ops)) (le-ltb q t.queues l)

  pub outputs_as : map items_as (outputs t (held m)) ≡ Rattle.order_theory.proofs.Final.outputs t.queues (kinds_as (view_sheet t)) (state_as m)
  outputs_as =
      let s = sound_of_accepted t h in
      ap (λ (n : Machine). map items_as (outputs_in (is_output (view_sheet t)) n.queues 0)) (decode_of_encode (view_sheet t) m g)
      ∙ out_as (is_output (view_sheet t)) (read_by (kinds_as (view_sheet t))) (state_as m).queue t.queues m.queues 0
      (omega (arith, s.queues, g.many))
      (λ k l. ap (is_output (view_sheet t)) (zero-add k) ∙ is_output_lem k l
      ∙ ap (λ (j : ℕ). not (read_by (kinds_as (view_sheet t)) j)) (sym (zero-add k)))
      (λ k l. no_output k (omega arith)) (λ k l. ap (λ (j : ℕ). items_as (get_or m.queues j [])) (zero-add k))

-- ---- the way back from the theory's items

lists_back : (xs : List (List Item)) → map (λ (x : List TItem). map item_of x) (map items_as xs) ≡ xs
lists_back [] = refl
lists_back (x ∷ xs) = ap₂ (λ (y : List Item) (ys : List (List Item)). y ∷ ys) (items_back x) (lists_back xs)

pub same_lists : (xs ys : List (List Item)) → map items_as xs ≡ map items_as ys → xs ≡ ys
same_lists xs ys e = sym (lists_back xs) ∙ ap (λ (zs : List (List TItem)). map (λ (x : List TItem). map item_of x) zs) e ∙ lists_back ys

-- ---- the first n variables, one by one

pub same_take : (n : ℕ) (u v : List ℤ) → n ≤ length u → n ≤ length v → ((k : ℕ) → k < n → get_or u k (pos 0) ≡ get_or v k (pos 0)) →
    take n u ≡ take n v
same_take n u v a b e =
    sym (take_build n u (pos 0) a) ∙ build_ext n (λ (k : ℕ). get_or u k (pos 0)) (λ (k : ℕ). get_or v k (pos 0)) e ∙ take_build n v (pos 0) b
