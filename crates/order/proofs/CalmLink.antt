-- An accepted, calm sheet is accepted and calm by counts.
-- Assumes nothing.
use mathlib.Core.Path.{◌≡◌, refl, ap, sym, ◌∙◌, subst, subst₂, fun_ext}
use mathlib.Core.Bool.{Bool, true, false, not, ◌||◌, or_comm}
use mathlib.Core.List.{List, [], ◌∷◌, map}
use Prim.Native.Nat.{ℕ, suc, ◌+◌, ◌<◌, ◌≤◌}
use native.Mathlib.Omega.{arith}
use lib.Dec.{ltb}
use lib.ListN.{length, get_or}
use borrow.Author.Tests.{not-true}
use Rattle.base_lists.specs.Lists.{all, member, bit}
use Rattle.base_lists.proofs.Build.{build_length, build_get_or, never}
use Rattle.base_lists.proofs.Tests.{both, all_build, all_member}
use Rattle.sheet_operator.specs.Op.{Op, line, latest, double, deal, gather, with, reads, defines, names}
use Rattle.sheet_operator.specs.Memory.{view}
use Rattle.sheet_operator.proofs.ViewLaws.{Small, small_view}
use Rattle.sheet_judge.specs.Judge.{Known, known, after, judge_by, whole, variables_good, six}
use Rattle.sheet_judge.proofs.KnownLaws.{known_with}
use Rattle.sheet_judge.proofs.JudgedLaws.{judged_four, judged_five, judged_six, judged_seven}
use Rattle.sheet_format.proofs.Heads.{ranges_of_good}
use Rattle.sheet.specs.declared.Sheet.{Sheet}
use Rattle.sheet.specs.Answer.{accepted, is_accepted}
use Rattle.sheet.specs.Sheet.{op_at, view_to, view_sheet}
use Rattle.sheet.specs.Check.{check_of}
use Rattle.sheet.proofs.Accepted.{Accepted, accepted_facts}
use Rattle.sheet.proofs.Turns.{view_more}
use Rattle.sheet.proofs.Passed.{four_reads, four_defines, five_parts, six_below}
use Rattle.sheet.proofs.AnswerLaws.{accepted_of}
use Rattle.counts.specs.Calm.{calm_from, is_calm}
use Rattle.order_theory.proofs.Equations.{Kind, Ways}
use Rattle.order_theory.proofs.Denote.{takes_from}
use Rattle.order_theory.proofs.Sheets.{gives}
use Rattle.order_theory.proofs.Rewrites.{All, none_left, also, all_of}
use Rattle.order_theory.proofs.Accept.{tot, holds_n}
use Rattle.order_theory.proofs.Scan.{Passes, Scan, at_end_lem, next, scan_acc}
use Rattle.order_theory.proofs.Final.{Calm}
use Rattle.order.specs.Order.{calm_sheet}
use Rattle.order.proofs.Model.{kind_as, kinds_as}
use Rattle.order.proofs.KindLaws.{bit_most, member_of_times, fresh_once, gives_times, reads_times, gives_member, takes_member, holds_member}
use Rattle.order.proofs.GoodSheets.{GoodOp, GoodSheet}

-- one operator that the judge keeps passes the theory's scan
pub ways_small : (o : Op) → Small o → Ways (kind_as o)
unfolding Ways
ways_small (line p q ss) h = tt
ways_small (latest p v f) h = tt
ways_small (double p q r) h = tt
ways_small (deal c p qs) h = omega (arith, h.0)
ways_small (gather c q ps) h = omega (arith, h.0)

passes : (Q vs : ℕ) (k : Known) (o : Op) → judge_by Q vs k o ≡ 0 → Small o → Passes Q k.defined k.used (kind_as o)
passes Q vs k o e s =
    let four = judged_four Q vs k o e in
    let five = five_parts k o (judged_five Q vs k o e) in
    record {
      ways = ways_small o s;
      known = λ q h. (four_reads Q k o four q (member_of_times q (reads o) (rw (reads_times q o) at h))).1;
      unread = λ q. rw (reads_times q o) (fresh_once k.used (reads o) five.1 q);
      undefined = λ q. rw (gives_times q o) (fresh_once k.defined (defines o) five.0 q);
      low = λ q h. four_defines Q k o four q (member_of_times q (defines o) (rw (gives_times q o) at h));
    }

after_scan : (Q : ℕ) (k : Known) (o : Op) (ops : List Kind) → Scan Q (after k o).defined (after k o).used ops →
    Scan Q (λ q. k.defined q || gives (kind_as o) q) (λ q. k.used q || takes_from (kind_as o) q) ops
after_scan Q k o ops s =
    subst₂ (λ (d r : ℕ → Bool). Scan Q d r ops)
    (fun_ext (λ q. or_comm (member q (defines o)) (k.defined q) ∙ ap (λ (b : Bool). k.defined q || b) (sym (gives_member o q))))
    (fun_ext (λ q. or_comm (member q (reads o)) (k.used q) ∙ ap (λ (b : Bool). k.used q || b) (sym (takes_member o q))))
    s

module _ (t : Sheet) (good : Accepted t) where
  -- the operators from i on
  scan_from : (os : List Op) (i : ℕ) → i + length os ≡ t.count → ((k : ℕ) → k < length os → get_or os k (double 0 0 0) ≡ view (op_at t (i + k))) →
      Scan t.queues (known (view_to t i)).defined (known (view_to t i)).used (map kind_as os)
  unfolding whole
  scan_from [] i n e =
      let m : i ≡ t.count = omega arith in
      at_end_lem
      (λ q l.
      ap (λ (j : ℕ). (known (view_to t j)).defined q) m ∙ all_build (known (view_sheet t)).defined t.queues (λ (k : ℕ). k) good.defined q l)
  scan_from (o ∷ os) i n e =
      let z : i + 0 ≡ i = omega arith in
      let here : o ≡ view (op_at t i) = e 0 (omega arith) ∙ ap (λ (j : ℕ). view (op_at t j)) z in
      let more : known (view_to t (i + 1)) ≡ after (known (view_to t i)) o =
      ap known (sym (view_more t i)) ∙ ap (λ (x : Op). known (with (view_to t i) x)) (sym here) ∙ known_with (view_to t i) o in
      next
      (passes t.queues t.variables (known (view_to t i)) o
      (ap (judge_by t.queues t.variables (known (view_to t i))) here ∙ good.judged i (omega arith))
      (subst Small (sym here) (small_view (op_at t i) (good.shaped i (omega arith)))))
      (after_scan t.queues (known (view_to t i)) o (map kind_as os)
      (subst (λ (k : Known). Scan t.queues k.defined k.used (map kind_as os)) more
      (scan_from os (i + 1) (omega arith)
      (λ k l. let w : i + suc k ≡ i + 1 + k = omega arith in e (suc k) (omega arith) ∙ ap (λ (j : ℕ). view (op_at t j)) w))))

  scan_all : Scan t.queues (λ q. ltb q t.inputs) (λ q. false) (kinds_as (view_sheet t))
  scan_all =
      let n = build_length t.count (λ (k : ℕ). view (op_at t k)) in
      subst (λ (d : ℕ → Bool). Scan t.queues d (λ q. false) (kinds_as (view_sheet t))) (fun_ext (λ q. or_comm (ltb q t.inputs) false))
      (scan_from (view_sheet t).ops 0 (omega arith)
      (λ k l.
      let z : k ≡ 0 + k = omega arith in
      build_get_or t.count (λ (k : ℕ). view (op_at t k)) (double 0 0 0) k (omega arith) ∙ ap (λ (j : ℕ). view (op_at t j)) z))

  -- what each operator has, as a property of the list
  each_view : (P : Op → Type 0) → ((i : ℕ) → i < t.count → P (view (op_at t i))) → All P (view_sheet t).ops
  each_view P h =
      let n = build_length t.count (λ (k : ℕ). view (op_at t k)) in
      all_of (view_sheet t).ops (double 0 0 0)
      (λ i l. subst P (sym (build_get_or t.count (λ (k : ℕ). view (op_at t k)) (double 0 0 0) i (omega arith))) (h i (omega arith)))

  six_view : (i : ℕ) → i < t.count → six t.variables (known (view_to t i)) (view (op_at t i)) ≡ true
  six_view i l = judged_six t.queues t.variables (known (view_to t i)) (view (op_at t i)) (good.judged i l)

  good_op : (i : ℕ) → i < t.count → GoodOp t.variables (view (op_at t i))
  unfolding six
  good_op i l =
      record {
        small = small_view (op_at t i) (good.shaped i l);
        six = (both (variables_good t.variables (view (op_at t i))) _ (six_view i l)).0;
        seven = judged_seven t.queues t.variables (known (view_to t i)) (view (op_at t i)) (good.judged i l);
      }

  names_view : All (λ (o : Op). (v : ℕ) → member v (names o) ≡ true → v < t.variables) (view_sheet t).ops
  names_view =
      each_view (λ (o : Op). (v : ℕ) → member v (names o) ≡ true → v < t.variables)
      (λ i l v m. six_below t.variables (known (view_to t i)) (view (op_at t i)) (six_view i l) v m)

-- a variable is held as often as it is named, and that at most once
pub calm_held : (d : ℕ → Bool) (os : List Op) → calm_from d os ≡ true → (k : ℕ) → tot (holds_n k) (map kind_as os) + bit (d k) ≤ 1
unfolding tot
calm_held d [] h k = bit_most (d k)
calm_held d (o ∷ os) h k =
    let p = both (all (λ (v : ℕ). not (d v)) (names o)) (calm_from (λ (v : ℕ). member v (names o) || d v) os) h in
    go (member k (names o)) (d k) (holds_member o k) (λ m. not-true (d k) (all_member (λ (v : ℕ). not (d v)) (names o) p.0 k m))
    (calm_held (λ (v : ℕ). member v (names o) || d v) os p.1 k)
  where
    go : (m c : Bool) {h : Bool} → h ≡ m → (m ≡ true → c ≡ false) → tot (holds_n k) (map kind_as os) + bit (m || c) ≤ 1 →
        bit h + tot (holds_n k) (map kind_as os) + bit c ≤ 1
    go true true e f g = never (sym (f refl))
    go true false e f g = rw e (omega arith)
    go false c e f g = rw e (omega arith)

held_below : (n : ℕ) {os : List Op} → All (λ (o : Op). (v : ℕ) → member v (names o) ≡ true → v < n) os → (k : ℕ) → n ≤ k →
    tot (holds_n k) (map kind_as os) ≡ 0
unfolding tot
held_below n none_left k l = refl
held_below n (also {x = o} {xs = os} p a) k l = go (member k (names o)) refl (held_below n a k l)
  where
    go : (b : Bool) → member k (names o) ≡ b → tot (holds_n k) (map kind_as os) ≡ 0 → holds_n k (kind_as o) + tot (holds_n k) (map kind_as os) ≡ 0
    go true e z = absurd (omega (arith, p k e))
    go false e z = rw (holds_member o k, e, z)

pub good_of_accepted : (t : Sheet) → check_of t ≡ accepted → is_calm (view_sheet t) ≡ true → GoodSheet (view_sheet t)
good_of_accepted t h c =
    let good = accepted_facts t h in
    let ranges = ranges_of_good t.inputs t.queues t.variables t.count good.head in
    record {
      head = rw (build_length t.count (λ (k : ℕ). view (op_at t k))) ranges;
      calm =
          record {
            acc =
                scan_acc t.queues t.inputs (kinds_as (view_sheet t)) ranges.within (scan_all t good)
                (λ k. omega (arith, calm_held (λ (v : ℕ). false) (view_sheet t).ops c k));
            vars = held_below t.variables (names_view t good);
          };
      each = each_view t good (GoodOp t.variables) (good_op t good);
    }

pub calm_link : (t : Sheet) → check_of t ≡ accepted → is_calm (view_sheet t) ≡ true → Calm t.inputs t.queues t.variables (kinds_as (view_sheet t))
calm_link t h c = (good_of_accepted t h c).calm

-- the same from the one test
pub good_of_calm : (t : Sheet) → calm_sheet t ≡ true → GoodSheet (view_sheet t)
good_of_calm t h = let p = both (is_accepted (check_of t)) (is_calm (view_sheet t)) h in good_of_accepted t (accepted_of (check_of t) p.0) p.1

pub calm_link_of : (t : Sheet) → calm_sheet t ≡ true → Calm t.inputs t.queues t.variables (kinds_as (view_sheet t))
calm_link_of t h = (good_of_calm t h).calm
