-- The worst counts: the three answers, a count that no operator changes, none from queue Q on, one for each queue,
-- and that a deal's count covers each output's share.
-- Assumes nothing.
use mathlib.Core.Path.{◌≡◌, refl, ap, ◌∙◌}
use mathlib.Core.Logic.{⊎_elim}
use mathlib.Core.Bool.{Bool, true, false, cond}
use mathlib.Core.List.{List, [], ◌∷◌, map}
use Prim.Native.Nat.{ℕ, suc, ◌<◌, ◌≤◌}
use native.Mathlib.Omega.{arith}
use lib.Dec.{ltb, leb, eqb}
use lib.ListN.{length, get_or, set, length-set, get_or-eq_default}
use lib.Seq.{get_or-set_other}
use borrow.Author.Tests.{lt-ltb, le-ltb, leb-true, eqb-true, eqb-false}
use Rattle.base_lists.specs.Lists.{any, member, sum}
use Rattle.base_lists.proofs.Build.{order}
use Rattle.base_lists.proofs.Tests.{neither, all_build, any_build}
use Rattle.base_lists.proofs.Places.{same_at}
use Rattle.sheet_operator.specs.Op.{Op, line, latest, double, deal, gather, defines}
use Rattle.sheet_operator.specs.Memory.{view}
use Rattle.base_bounds.specs.Bounds.{QUEUES, ROOM}
use Rattle.sheet.specs.Answer.{accepted, refused, is_accepted}
use Rattle.sheet.specs.Check.{check_of}
use Rattle.sheet.specs.Sheet.{op_at, view_sheet}
use Rattle.sheet.specs.declared.Sheet.{Sheet}
use Rattle.sheet.proofs.Laws.{define_below}
use Rattle.sheet.proofs.AnswerLaws.{accepted_of}
use Rattle.sheet.proofs.Accepted.{ranges_of_accepted}
use Rattle.counts.specs.Worst.{feed_good, deal_worst, dealt, worst_op, worst_from}
use Rattle.counts.specs.Answers.{Counting, no_counts, worst_of}

-- the three answers
module _ (t : Sheet) (fed : List ℕ) where
  pub worst_refused : is_accepted (check_of t) ≡ false → worst_of t fed ≡ no_counts (check_of t)
  unfolding worst_of
  worst_refused h = rw h

  pub worst_overfed : check_of t ≡ accepted → feed_good t.inputs fed ≡ false → worst_of t fed ≡ no_counts (refused 8)
  unfolding worst_of
  worst_overfed h f = rw (h, f)

  pub worst_counted : check_of t ≡ accepted → feed_good t.inputs fed ≡ true →
      worst_of t fed ≡ record { answer = accepted; counts = worst_from fed (view_sheet t).ops }
  unfolding worst_of
  worst_counted h f = rw (h, f)

-- what a good feed is
module _ (inputs : ℕ) (fed : List ℕ) (good : feed_good inputs fed ≡ true) (full : length fed ≡ QUEUES) where
  fed_test : (q : ℕ) → q < QUEUES → cond (ltb q inputs) (leb (get_or fed q 0) ROOM) (eqb (get_or fed q 0) 0) ≡ true
  unfolding feed_good
  fed_test q l = all_build (λ (q : ℕ). cond (ltb q inputs) (leb (get_or fed q 0) ROOM) (eqb (get_or fed q 0) 0)) QUEUES (λ (q : ℕ). q) good q l

  fed_outside : (q : ℕ) → QUEUES ≤ q → get_or fed q 0 ≡ 0
  fed_outside q l = get_or-eq_default fed 0 (rw full l)

  pub fed_past : (q : ℕ) → inputs ≤ q → get_or fed q 0 ≡ 0
  fed_past q l =
      ⊎_elim (λ (u : q < QUEUES). eqb-true (get_or fed q 0) 0 (rw (le-ltb q inputs l) at (fed_test q u))) (fed_outside q)
      (order q QUEUES)

  fed_input : (q : ℕ) → q < inputs → get_or fed q 0 ≤ ROOM
  fed_input q l =
      ⊎_elim (λ (u : q < QUEUES). leb-true (get_or fed q 0) ROOM (rw (lt-ltb q inputs l) at (fed_test q u)))
      (λ (u : QUEUES ≤ q). omega (arith, fed_outside q u))
      (order q QUEUES)

  pub fed_most : (q : ℕ) → get_or fed q 0 ≤ ROOM
  fed_most q = ⊎_elim (fed_input q) (λ (l : inputs ≤ q). omega (arith, fed_past q l)) (order q inputs)

-- a queue that is not defined keeps its count
set_keeps : (w : List ℕ) (p n q : ℕ) → eqb q p ≡ false → get_or (set w p n) q 0 ≡ get_or w q 0
set_keeps w p n q h = get_or-set_other w p q n 0 (eqb-false q p h)

dealt_keeps : (qs w : List ℕ) (n k j q : ℕ) → member q qs ≡ false → get_or (dealt w n k j qs) q 0 ≡ get_or w q 0
dealt_keeps [] w n k j q h = refl
dealt_keeps (p ∷ qs) w n k j q h =
    let e = neither (eqb q p) (member q qs) h in
    dealt_keeps qs (set w p (deal_worst n k j)) n k (suc j) q e.1 ∙ set_keeps w p (deal_worst n k j) q e.0

pub worst_op_keeps : (w : List ℕ) (o : Op) (q : ℕ) → member q (defines o) ≡ false → get_or (worst_op w o) q 0 ≡ get_or w q 0
worst_op_keeps w (line p r ss) q h = set_keeps w r (get_or w p 0) q (neither (eqb q r) false h).0
worst_op_keeps w (latest p v f) q h = refl
worst_op_keeps w (double p r s) q h =
    let e = neither (eqb q r) (member q (s ∷ [])) h in
    set_keeps (set w r (get_or w p 0)) s (get_or w p 0) q (neither (eqb q s) false e.1).0 ∙ set_keeps w r (get_or w p 0) q e.0
worst_op_keeps w (deal c p qs) q h = dealt_keeps qs w (get_or w p 0) (length qs) 0 q h
worst_op_keeps w (gather c r ps) q h = set_keeps w r (sum (map (λ (p : ℕ). get_or w p 0) ps)) q (neither (eqb q r) false h).0

pub worst_keeps : (w : List ℕ) (os : List Op) (q : ℕ) → any (λ (o : Op). member q (defines o)) os ≡ false → get_or (worst_from w os) q 0 ≡ get_or w q 0
worst_keeps w [] q h = refl
worst_keeps w (o ∷ os) q h =
    let e = neither (member q (defines o)) (any (λ (x : Op). member q (defines x)) os) h in
    worst_keeps (worst_op w o) os q e.1 ∙ worst_op_keeps w o q e.0

-- an accepted sheet defines no queue from Q on
none_defines : (t : Sheet) → check_of t ≡ accepted → (q : ℕ) → t.queues ≤ q → any (λ (o : Op). member q (defines o)) (view_sheet t).ops ≡ false
none_defines t h q l = cases (any (λ (o : Op). member q (defines o)) (view_sheet t).ops) refl
  where
    cases : (b : Bool) → any (λ (o : Op). member q (defines o)) (view_sheet t).ops ≡ b → b ≡ false
    cases false e = refl
    cases true e =
        let r = any_build (λ (o : Op). member q (defines o)) t.count (λ (k : ℕ). view (op_at t k)) e in
        absurd (omega (arith, define_below t h r.0 q r.1.0 r.1.1))

pub worst_past : (t : Sheet) (fed : List ℕ) → length fed ≡ QUEUES → (q : ℕ) → t.queues ≤ q → get_or (worst_of t fed).counts q 0 ≡ 0
worst_past t fed full q l = cases (is_accepted (check_of t)) (feed_good t.inputs fed) refl refl
  where
    cases : (a b : Bool) → is_accepted (check_of t) ≡ a → feed_good t.inputs fed ≡ b → get_or (worst_of t fed).counts q 0 ≡ 0
    cases false b e f = ap (λ (c : Counting). get_or c.counts q 0) (worst_refused t fed e) ∙ same_at QUEUES 0 q
    cases true false e f = ap (λ (c : Counting). get_or c.counts q 0) (worst_overfed t fed (accepted_of (check_of t) e) f) ∙ same_at QUEUES 0 q
    cases true true e f =
        let h = accepted_of (check_of t) e in
        ap (λ (c : Counting). get_or c.counts q 0) (worst_counted t fed h f) ∙ worst_keeps fed (view_sheet t).ops q (none_defines t h q l)
        ∙ fed_past t.inputs fed f full q (omega (arith, ranges_of_accepted t h))

-- there is a count for each queue
dealt_length : (qs w : List ℕ) (n k j : ℕ) → length (dealt w n k j qs) ≡ length w
dealt_length [] w n k j = refl
dealt_length (q ∷ qs) w n k j = dealt_length qs (set w q (deal_worst n k j)) n k (suc j) ∙ length-set w q (deal_worst n k j)

worst_op_length : (w : List ℕ) (o : Op) → length (worst_op w o) ≡ length w
worst_op_length w (line p q ss) = length-set w q (get_or w p 0)
worst_op_length w (latest p v f) = refl
worst_op_length w (double p q r) = length-set (set w q (get_or w p 0)) r (get_or w p 0) ∙ length-set w q (get_or w p 0)
worst_op_length w (deal c p qs) = dealt_length qs w (get_or w p 0) (length qs) 0
worst_op_length w (gather c q ps) = length-set w q (sum (map (λ (p : ℕ). get_or w p 0) ps))

pub worst_from_length : (w : List ℕ) (os : List Op) → length (worst_from w os) ≡ length w
worst_from_length w [] = refl
worst_from_length w (o ∷ os) = worst_from_length (worst_op w o) os ∙ worst_op_length w o

pub worst_length : (t : Sheet) (fed : List ℕ) → length fed ≡ QUEUES → length (worst_of t fed).counts ≡ QUEUES
worst_length t fed full = cases (is_accepted (check_of t)) (feed_good t.inputs fed) refl refl
  where
    cases : (a b : Bool) → is_accepted (check_of t) ≡ a → feed_good t.inputs fed ≡ b → length (worst_of t fed).counts ≡ QUEUES
    cases false b e f = ap (λ (c : Counting). length c.counts) (worst_refused t fed e)
    cases true false e f = ap (λ (c : Counting). length c.counts) (worst_overfed t fed (accepted_of (check_of t) e) f)
    cases true true e f =
        ap (λ (c : Counting). length c.counts) (worst_counted t fed (accepted_of (check_of t) e) f) ∙ worst_from_length fed (view_sheet t).ops ∙ full
