-- The two lines of a fuse or a reorder: where they stand in the list of operators, and the list with other operators in their places.
-- Assumes nothing.
use mathlib.Core.Path.{◌≡◌, refl, ap, ap₂, sym, ◌∙◌}
use mathlib.Core.Logic.{⊎_elim}
use mathlib.Core.Bool.{true, false}
use mathlib.Core.List.{List, [], ◌∷◌, ◌++◌, map, append_assoc}
use Prim.Native.Nat.{ℕ, suc, ◌+◌, ◌-◌, ◌<◌, ◌≤◌}
use native.Mathlib.Nat.{sub-zero}
use native.Mathlib.Omega.{arith}
use lib.Dec.{eqb, ltb}
use lib.ListN.{length, get_or, set, take, drop, length-append, length-map, length-drop, get_or-map}
use lib.Seq.{set_at, take_at, drop_at, length-take-le}
use borrow.Author.Tests.{ltb-true, lt-ltb, eqb-true, eq-eqb}
use Rattle.base_lists.specs.Lists.{member}
use Rattle.base_lists.proofs.Build.{never}
use Rattle.base_lists.proofs.Tests.{both, or_cases}
use Rattle.base_lists.proofs.Places.{get_d_any}
use Rattle.base_lists.proofs.Cut.{cut_two}
use Rattle.sheet_operator.specs.Op.{Op, line, latest, double, deal, gather, Abstract, reads, defines}
use Rattle.base_bounds.specs.Bounds.{OPERATORS}
use Rattle.run_machine.proofs.ReaderLaws.{is_read, reader_found, reader_reads}
use Rattle.rewrite_rules.specs.Rewrite.{is_line, in_of, out_of, steps_of, at, next_of, to_line}
use Rattle.order_theory.proofs.Equations.{Kind}
use Rattle.order_theory.proofs.Denote.{takes_from}
use Rattle.order_theory.proofs.Sheets.{gives, blank}
use Rattle.order_theory.proofs.Accept.{accepted}
use Rattle.order.proofs.Model.{kind_as, kinds_as}
use Rattle.order.proofs.KindLaws.{gives_member, takes_member}
use Rattle.order.proofs.GoodSheets.{GoodSheet}

pub is_line_lem : (o : Op) → is_line o ≡ true → o ≡ line (in_of o) (out_of o) (steps_of o)
is_line_lem (line p q ss) h = refl
is_line_lem (latest p v f) h = never h
is_line_lem (double p q r) h = never h
is_line_lem (deal c p qs) h = never h
is_line_lem (gather c q ps) h = never h

-- a list taken apart at two places, with other elements there, and without the second
module _ {A : Type 0} (l pre mid post : List A) (i j : ℕ) (u v : A) (cut : l ≡ pre ++ (u ∷ (mid ++ (v ∷ post)))) (first : length pre ≡ i)
    (second : length pre + suc (length mid) ≡ j) where
  set_first : (x : A) → set l i x ≡ pre ++ (x ∷ mid) ++ (v ∷ post)
  set_first x =
      ap (λ (r : List A). set r i x) cut ∙ set_at pre u (mid ++ (v ∷ post)) x i first
      ∙ sym (append_assoc pre (x ∷ mid) (v ∷ post))

  long : (x : A) → length (pre ++ (x ∷ mid)) ≡ j
  long x = length-append pre (x ∷ mid) ∙ second

  pub set_both : (x y : A) → set (set l i x) j y ≡ pre ++ (x ∷ (mid ++ (y ∷ post)))
  set_both x y =
      ap (λ (r : List A). set r j y) (set_first x) ∙ set_at (pre ++ (x ∷ mid)) v post y j (long x) ∙ append_assoc pre (x ∷ mid) (y ∷ post)

  pub set_drop : (x : A) → take j (set l i x) ++ drop (j + 1) (set l i x) ≡ pre ++ (x ∷ (mid ++ post))
  set_drop x =
      let e : pre ++ (x ∷ mid) ++ (v ∷ post) ≡ pre ++ (x ∷ mid) ++ (v ∷ []) ++ post = sym (append_assoc (pre ++ (x ∷ mid)) (v ∷ []) post) in
      let n : length (pre ++ (x ∷ mid) ++ (v ∷ [])) ≡ j + 1 = length-append (pre ++ (x ∷ mid)) (v ∷ []) ∙ ap (λ (k : ℕ). k + 1) (long x) in
      ap₂ (λ (r s : List A). r ++ s)
      (ap (take j) (set_first x) ∙ take_at (pre ++ (x ∷ mid)) (v ∷ post) j (long x))
      (ap (drop (j + 1)) (set_first x ∙ e) ∙ drop_at (pre ++ (x ∷ mid) ++ (v ∷ [])) post (j + 1) n)
      ∙ append_assoc pre (x ∷ mid) post

pub record TwoLines (a : Abstract) (i j : ℕ) : Type 0 where
  pub pre : List Op
  pub mid : List Op
  pub post : List Op
  pub meets : in_of (at a j) ≡ out_of (at a i)
  pub cut :
      a.ops
      ≡ pre ++ (line (in_of (at a i)) (out_of (at a i)) (steps_of (at a i))
      ∷ (mid ++ (line (out_of (at a i)) (out_of (at a j)) (steps_of (at a j)) ∷ post)))
  pub first : length pre ≡ i
  pub second : length pre + suc (length mid) ≡ j

kind_at : (os : List Op) (i : ℕ) → i < length os → get_or (map kind_as os) i blank ≡ kind_as (get_or os i (double 0 0 0))
kind_at os i l =
    let n = length-map os kind_as in
    get_d_any (map kind_as os) i blank (kind_as (double 0 0 0)) (omega arith) ∙ get_or-map kind_as os i (double 0 0 0)

reads_one : (o : Op) (q : ℕ) → is_line o ≡ true → member q (reads o) ≡ true → in_of o ≡ q
reads_one (line p r ss) q h m = ⊎_elim (λ e. sym (eqb-true q p e)) (λ n. never n) (or_cases (eqb q p) false m)
reads_one (latest p v f) q h m = never h
reads_one (double p r s) q h m = never h
reads_one (deal c p qs) q h m = never h
reads_one (gather c r ps) q h m = never h

defines_own : (o : Op) → is_line o ≡ true → member (out_of o) (defines o) ≡ true
defines_own (line p r ss) h = rw (eq-eqb r r refl)
defines_own (latest p v f) h = never h
defines_own (double p r s) h = never h
defines_own (deal c p qs) h = never h
defines_own (gather c r ps) h = never h

module _ (a : Abstract) (g : GoodSheet a) (i : ℕ) (l : i < length a.ops) (first_line : is_line (at a i) ≡ true) (next-line : to_line a i ≡ true) where
  abbrev j : ℕ
  j = next_of a i

  abbrev m : ℕ
  m = out_of (at a i)

  next_parts : (ltb j (length a.ops) ≡ true) × (is_line (at a j) ≡ true)
  next_parts = both (ltb j (length a.ops)) (is_line (at a j)) next-line

  pub next_below : j < length a.ops
  next_below = ltb-true j (length a.ops) next_parts.0

  -- the next operator reads the queue, so it comes later
  next_reads : member m (reads (at a j)) ≡ true
  next_reads =
      let room : 0 + length a.ops ≤ OPERATORS = omega (arith, g.head.count) in
      let found : is_read a.ops m ≡ true = sym (reader_found a.ops 0 m room) ∙ lt-ltb j OPERATORS (omega (arith, next_below)) in
      ap (λ (k : ℕ). member m (reads (at a k))) (sym (sub-zero j)) ∙ reader_reads a.ops 0 m (double 0 0 0) room found

  pub next_later : i < j
  next_later =
      let n = length-map a.ops kind_as in
      let acc = accepted a.inputs a.queues (kinds_as a) g.calm.acc in
      acc.order j i m (omega (arith, next_below)) (omega arith)
      (ap (λ (κ : Kind). takes_from κ m) (kind_at a.ops j next_below) ∙ takes_member (at a j) m ∙ next_reads)
      (ap (λ (κ : Kind). gives κ m) (kind_at a.ops i l) ∙ gives_member (at a i) m ∙ defines_own (at a i) first_line)

  pub two_lines : TwoLines a i (next_of a i)
  two_lines =
      let meets : in_of (at a j) ≡ m = reads_one (at a j) m next_parts.1 next_reads in
      let n : length (take i a.ops) ≡ i = length-take-le i a.ops (omega arith) in
      let k : length (take (j - suc i) (drop (suc i) a.ops)) ≡ j - suc i =
      length-take-le (j - suc i) (drop (suc i) a.ops) (rw (length-drop (suc i) a.ops) (omega (arith, next_below))) in
      record {
        pre = take i a.ops;
        mid = take (j - suc i) (drop (suc i) a.ops);
        post = drop (suc j) a.ops;
        meets = meets;
        cut =
            cut_two a.ops i j (double 0 0 0) next_later next_below
            ∙ ap₂ (λ (x y : Op). take i a.ops ++ (x ∷ (take (j - suc i) (drop (suc i) a.ops) ++ (y ∷ drop (suc j) a.ops))))
            (is_line_lem (at a i) first_line)
            (is_line_lem (at a j) next_parts.1 ∙ ap (λ (p : ℕ). line p (out_of (at a j)) (steps_of (at a j))) meets);
        first = n;
        second = omega (arith, next_later);
      }
