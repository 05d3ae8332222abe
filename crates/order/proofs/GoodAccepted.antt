-- A good sheet's operators are kept by the judge, one after the other: in memory the sheet is accepted, calm and stands for itself.
-- Assumes nothing.
use mathlib.Core.Path.{◌≡◌, refl, ap, sym, ◌∙◌, subst}
use mathlib.Core.Logic.{⊎_elim}
use mathlib.Core.Bool.{Bool, true, false, not, ◌&&◌, ◌||◌}
use mathlib.Core.List.{List, [], ◌∷◌, ◌++◌, map, map-append}
use Prim.Native.Nat.{ℕ, zero, suc, ◌+◌, ◌<◌, ◌≤◌}
use native.Mathlib.Omega.{arith}
use lib.Dec.{ltb, leb}
use lib.ListN.{length, take, drop}
use lib.Seq.{split_at}
use borrow.Author.Tests.{lt-ltb, le-ltb, le-leb}
use Rattle.base_lists.specs.Lists.{all, any, member, fresh, bit}
use Rattle.base_lists.proofs.Build.{order, never}
use Rattle.base_lists.proofs.Tests.{both_of, all_build_of}
use Rattle.base_lists.proofs.Members.{all_of_members}
use Rattle.base_lists.proofs.Bits.{bit_false, bit_or, bit_one}
use Rattle.base_lists.proofs.Times.{times_member}
use Rattle.sheet_operator.specs.Op.{Op, line, latest, double, deal, gather, Abstract, reads, defines, names, cursors}
use Rattle.sheet_operator.proofs.ViewLaws.{Small}
use Rattle.sheet_judge.specs.Judge.{Known, known, known_of, judge_by, judge, whole, four, five, six, variables_good}
use Rattle.sheet_format.specs.Head.{head_good}
use Rattle.base_bounds.specs.Bounds.{OPERATORS, VARIABLES, QUEUES, INPUTS}
use Rattle.sheet_format.proofs.Heads.{HeadRanges}
use Rattle.sheet.specs.Answer.{accepted}
use Rattle.sheet.specs.Sheet.{view_sheet, memory_sheet}
use Rattle.sheet.specs.Check.{check_of}
use Rattle.sheet.proofs.Accepted.{facts_accepted}
use Rattle.sheet.proofs.Placed.{nth, cut_to, view_back, accepted_placed}
use Rattle.counts.specs.Calm.{calm_from, is_calm}
use Rattle.order_theory.proofs.Equations.{Kind}
use Rattle.order_theory.proofs.Rewrites.{all_at}
use Rattle.order_theory.proofs.Accept.{tot, tot_append, gives_n, reads_n, holds_n, Ord, ord_head}
use Rattle.order_theory.proofs.FuseAcc.{ord_right}
use Rattle.order_theory.proofs.Final.{Calm}
use Rattle.order.proofs.Model.{kind_as}
use Rattle.order.proofs.KindLaws.{member_of_times, once_fresh, gives_times, reads_times, holds_member}
use Rattle.order.proofs.GoodSheets.{GoodOp, GoodSheet}

-- a test that some operator passes, and a count over all of them
module _ (f : Op → Bool) (n : Kind → ℕ) where
  any_tot : ((o : Op) → f o ≡ true → 1 ≤ n (kind_as o)) → (os : List Op) → bit (any f os) ≤ tot n (map kind_as os)
  unfolding tot
  any_tot h [] = omega arith
  any_tot h (o ∷ os) = go (f o) refl (any_tot h os)
    where
      go : (b : Bool) → f o ≡ b → bit (any f os) ≤ tot n (map kind_as os) → bit (b || any f os) ≤ n (kind_as o) + tot n (map kind_as os)
      go true e i = omega (arith, h o e)
      go false e i = omega arith

  tot_any : ((o : Op) → 1 ≤ n (kind_as o) → f o ≡ true) → (os : List Op) → 1 ≤ tot n (map kind_as os) → any f os ≡ true
  unfolding tot
  tot_any h [] l = absurd (omega arith)
  tot_any h (o ∷ os) l = go (f o) refl (tot_any h os)
    where
      none : (k : ℕ) → f o ≡ false → n (kind_as o) ≡ k → k ≡ 0
      none zero e d = refl
      none (suc k) e d = never (sym e ∙ h o (omega arith))

      go : (b : Bool) → f o ≡ b → (1 ≤ tot n (map kind_as os) → any f os ≡ true) → (b || any f os) ≡ true
      go true e i = refl
      go false e i = i (omega (arith, none (n (kind_as o)) e refl))

or_one : (a b : Bool) (n : ℕ) → (1 ≤ n → b ≡ true) → 1 ≤ bit a + n → (a || b) ≡ true
or_one true b n f h = refl
or_one false b n f h = f (omega arith)

cursor_named : (o : Op) (v : ℕ) → member v (cursors o) ≡ true → member v (names o) ≡ true
cursor_named (line p q ss) v h = never h
cursor_named (latest p w f) v h = never h
cursor_named (double p q r) v h = never h
cursor_named (deal c p qs) v h = h
cursor_named (gather c q ps) v h = h

held_named : (o : Op) (v : ℕ) → member v (names o) ≡ true → 1 ≤ holds_n v (kind_as o)
held_named o v h = bit_one _ (holds_member o v ∙ h)

-- what is known of the first operators is at most what they count
module _ (I : ℕ) (os : List Op) where
  defined_most : (q : ℕ) → bit ((known_of I os).defined q) ≤ bit (ltb q I) + tot (gives_n q) (map kind_as os)
  defined_most q =
      let a = any_tot (λ (o : Op). member q (defines o)) (gives_n q) (λ o h. rw (gives_times q o) (times_member q (defines o) h)) os in
      omega (arith, bit_or (ltb q I) (any (λ (o : Op). member q (defines o)) os))

  defined_of : (q : ℕ) → 1 ≤ bit (ltb q I) + tot (gives_n q) (map kind_as os) → (known_of I os).defined q ≡ true
  defined_of q h =
      or_one (ltb q I) (any (λ (o : Op). member q (defines o)) os) (tot (gives_n q) (map kind_as os))
      (tot_any (λ (o : Op). member q (defines o)) (gives_n q) (λ o l. member_of_times q (defines o) (rw (gives_times q o) at l)) os) h

  used_most : (q : ℕ) → bit ((known_of I os).used q) ≤ tot (reads_n q) (map kind_as os)
  used_most q = any_tot (λ (o : Op). member q (reads o)) (reads_n q) (λ o h. rw (reads_times q o) (times_member q (reads o) h)) os

  named_most : (v : ℕ) → bit ((known_of I os).named v) ≤ tot (holds_n v) (map kind_as os)
  named_most v = any_tot (λ (o : Op). member v (names o)) (holds_n v) (λ o h. held_named o v h) os

  cursor_most : (v : ℕ) → bit ((known_of I os).cursor v) ≤ tot (holds_n v) (map kind_as os)
  cursor_most v = any_tot (λ (o : Op). member v (cursors o)) (holds_n v) (λ o h. held_named o v (cursor_named o v h)) os

-- an operator of a good sheet is kept after those before it
module _ (I Q vs : ℕ) (pre : List Op) (o : Op) (post : List Op) (calm : Calm I Q vs (map kind_as (pre ++ (o ∷ post)))) (good : GoodOp vs o) where
  abbrev before : Known
  before = known_of I pre

  parts : (f : Kind → ℕ) → tot f (map kind_as (pre ++ (o ∷ post))) ≡ tot f (map kind_as pre) + (f (kind_as o) + tot f (map kind_as post))
  unfolding tot
  parts f = ap (tot f) (map-append kind_as pre (o ∷ post)) ∙ tot_append f (map kind_as pre) (kind_as o ∷ map kind_as post)

  no_later : (q : ℕ) → 1 ≤ reads_n q (kind_as o) → gives_n q (kind_as o) + tot (gives_n q) (map kind_as post) ≡ 0
  no_later =
      ord_head (ord_right (map kind_as pre) (kind_as o ∷ map kind_as post) (subst Ord (map-append kind_as pre (o ∷ post)) calm.acc.ord))

  defined_le : (q : ℕ) → tot (gives_n q) (map kind_as (pre ++ (o ∷ post))) + bit (ltb q I) ≤ 1
  defined_le q =
      ⊎_elim (λ (l : q < Q). omega (arith, calm.acc.defs q l))
      (λ (l : Q ≤ q). let z : bit (ltb q I) ≡ 0 = rw (le-ltb q I (omega (arith, calm.acc.fit))) in omega (arith, calm.acc.defs_out q l))
      (order q Q)

  read_good : (p : ℕ) → member p (reads o) ≡ true → (ltb p Q && before.defined p) ≡ true
  read_good p m =
      let r : 1 ≤ reads_n p (kind_as o) = rw (reads_times p o) (times_member p (reads o) m) in
      ⊎_elim
      (λ (l : p < Q).
      both_of (ltb p Q) (before.defined p) (lt-ltb p Q l) (defined_of I pre p (omega (arith, calm.acc.defs p l, parts (gives_n p), no_later p r))))
      (λ (l : Q ≤ p). absurd (omega (arith, calm.acc.reads_out p l, parts (reads_n p))))
      (order p Q)

  define_good : (q : ℕ) → member q (defines o) ≡ true → ltb q Q ≡ true
  define_good q m =
      let r : 1 ≤ gives_n q (kind_as o) = rw (gives_times q o) (times_member q (defines o) m) in
      ⊎_elim (λ (l : q < Q). lt-ltb q Q l) (λ (l : Q ≤ q). absurd (omega (arith, calm.acc.defs_out q l, parts (gives_n q)))) (order q Q)

  passes_four : four Q before o ≡ true
  unfolding four
  passes_four =
      both_of _ _ (all_of_members (λ (p : ℕ). ltb p Q && before.defined p) (reads o) read_good)
      (all_of_members (λ (q : ℕ). ltb q Q) (defines o) define_good)

  passes_five : five before o ≡ true
  unfolding five
  passes_five =
      both_of (fresh before.defined (defines o)) (fresh before.used (reads o))
      (once_fresh before.defined (defines o) (λ q. omega (arith, gives_times q o, defined_most I pre q, defined_le q, parts (gives_n q))))
      (once_fresh before.used (reads o) (λ q. omega (arith, reads_times q o, used_most I pre q, calm.acc.reads q, parts (reads_n q))))

  passes_six : six vs before o ≡ true
  unfolding six
  passes_six =
      both_of (variables_good vs o) _ good.six
      (both_of (all (λ (v : ℕ). not (before.cursor v)) (names o)) (all (λ (c : ℕ). not (before.named c)) (cursors o))
      (all_of_members (λ (v : ℕ). not (before.cursor v)) (names o)
      (λ v m. ap not (bit_false (before.cursor v) (omega (arith, held_named o v m, cursor_most I pre v, calm.acc.calm v, parts (holds_n v))))))
      (all_of_members (λ (c : ℕ). not (before.named c)) (cursors o)
      (λ v m.
      ap not
      (bit_false (before.named v) (omega (arith, held_named o v (cursor_named o v m), named_most I pre v, calm.acc.calm v, parts (holds_n v)))))))

  pub kept_after : judge_by Q vs before o ≡ 0
  unfolding judge_by
  kept_after = rw (passes_four, passes_five, passes_six, good.seven)

-- no variable is named twice
pub held_calm : (d : ℕ → Bool) (os : List Op) → ((k : ℕ) → tot (holds_n k) (map kind_as os) + bit (d k) ≤ 1) → calm_from d os ≡ true
unfolding tot
held_calm d [] h = refl
held_calm d (o ∷ os) h =
    both_of (all (λ (v : ℕ). not (d v)) (names o)) (calm_from (λ (v : ℕ). member v (names o) || d v) os)
    (all_of_members (λ (v : ℕ). not (d v)) (names o) (λ v m. ap not (bit_false (d v) (omega (arith, held_named o v m, h v)))))
    (held_calm (λ (v : ℕ). member v (names o) || d v) os (λ k. go k (member k (names o)) (holds_member o k) (h k)))
  where
    go : (k : ℕ) (m : Bool) {b : Bool} → b ≡ m → bit b + tot (holds_n k) (map kind_as os) + bit (d k) ≤ 1 →
        tot (holds_n k) (map kind_as os) + bit (m || d k) ≤ 1
    go k true e g = let z = rw e at g in omega arith
    go k false e g = omega arith

pub good_head : (i q v n : ℕ) → HeadRanges i q v n → head_good i q v n ≡ true
unfolding head_good
good_head i q v n h =
    both_of (leb 1 i) _ (le-leb 1 i h.some)
    (both_of (leb i INPUTS) _ (le-leb i INPUTS h.inputs)
    (both_of (leb i q) _ (le-leb i q h.within)
    (both_of (leb q QUEUES) _ (le-leb q QUEUES h.queues)
    (both_of (leb v VARIABLES) (leb n OPERATORS) (le-leb v VARIABLES h.variables) (le-leb n OPERATORS h.count)))))

-- what a good sheet is in memory
pub record InMemory (a : Abstract) : Type 0 where
  pub accepted : check_of (memory_sheet a) ≡ accepted
  pub calm : is_calm (view_sheet (memory_sheet a)) ≡ true
  pub back : view_sheet (memory_sheet a) ≡ a

module _ (a : Abstract) (g : GoodSheet a) where
  judged_at : (i : ℕ) → i < length a.ops → judge (cut_to a i) (nth a.ops i) ≡ 0
  judged_at i l =
      kept_after a.inputs a.queues a.variables (take i a.ops) (nth a.ops i) (drop (suc i) a.ops)
      (subst (λ (os : List Op). Calm a.inputs a.queues a.variables (map kind_as os)) (split_at a.ops i (double 0 0 0) l) g.calm)
      (all_at g.each i (double 0 0 0) l)

  whole_of : whole a.queues (known a) ≡ true
  unfolding whole
  whole_of =
      all_build_of (known a).defined a.queues (λ (k : ℕ). k) (λ q l. defined_of a.inputs a.ops q (omega (arith, g.calm.acc.defs q l)))

  pub in_memory : InMemory a
  in_memory =
      let small : (k : ℕ) → k < length a.ops → Small (nth a.ops k) = λ k l. (all_at g.each k (double 0 0 0) l).small in
      let back = view_back a g.head.count small in
      record {
        accepted = facts_accepted (memory_sheet a) (accepted_placed a g.head.count small (good_head _ _ _ _ g.head) judged_at whole_of);
        calm = ap is_calm back ∙ held_calm (λ (v : ℕ). false) a.ops (λ k. omega (arith, g.calm.acc.calm k));
        back = back;
      }
