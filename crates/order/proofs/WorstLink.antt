-- The worst counts that are answered are the theory's, and satisfy each operator's rule.
-- Assumes nothing.
use mathlib.Core.Path.{◌≡◌, refl, sym, ap, ◌∙◌, subst, fun_ext}
use mathlib.Core.Bool.{Bool, true, false, cond, ◌||◌}
use mathlib.Core.List.{List, [], ◌∷◌, map}
use mathlib.Core.Logic.{⊎_elim}
use Prim.Native.Nat.{ℕ, zero, suc, ◌+◌, ◌-◌, ◌/◌, ◌≤◌, ◌<◌}
use native.Mathlib.Omega.{arith}
use lib.Dec.{eqb, ltb, leb}
use lib.ListN.{length, get_or, set, length-map, length-set, get_or-eq_default}
use lib.Seq.{get_or-set_same, get_or-set_other}
use borrow.Author.Tests.{ltb-true, leb-true, eqb-true, eqb-false}
use Rattle.base_lists.specs.Lists.{all, sum, member}
use Rattle.base_lists.proofs.Build.{order, build_length, build_get_or}
use Rattle.base_lists.proofs.Tests.{both, all_get_d, all_of_each}
use Rattle.base_lists.proofs.Members.{all_below}
use Rattle.sheet_operator.specs.Op.{Op, line, latest, double, deal, gather, defines}
use Rattle.base_bounds.specs.Bounds.{QUEUES, ROOM}
use Rattle.sheet.specs.declared.Sheet.{Sheet}
use Rattle.sheet.specs.Answer.{accepted, is_accepted}
use Rattle.sheet.specs.Sheet.{view_sheet}
use Rattle.sheet.specs.Check.{check_of}
use Rattle.counts.specs.Worst.{feed_good, dealt, worst_op, worst_from}
use Rattle.counts.specs.Answers.{Counting, worst_of}
use Rattle.counts.proofs.WorstLaws.{worst_overfed, worst_counted, fed_most, worst_from_length}
use Rattle.run_machine.proofs.Sound.{sound_of_accepted}
use Rattle.order_theory.proofs.Equations.{Kind}
use Rattle.order_theory.proofs.Sheets.{gives, blank, find_none}
use Rattle.order_theory.proofs.Rewrites.{all_at}
use Rattle.order_theory.proofs.Counts.{WEq}
use Rattle.order_theory.proofs.Accept.{Acc, tot_none, gives_n, not_gives, defs_le}
use Rattle.order_theory.proofs.WorstOf.{wput, worst_frame}
use Rattle.order_theory.proofs.WorstRules.{worst_all}
use Rattle.order_theory.proofs.Demand.{Counted}
use Rattle.order.specs.Order.{Feed, given, numbers_fed, to_inputs, roomy}
use Rattle.order.proofs.Model.{kind_as, kinds_as, item_as, items_as}
use Rattle.order.proofs.FeedLink.{given_none}

abbrev at : List ℕ → ℕ → ℕ
at w q = get_or w q 0

abbrev below : ℕ → List ℕ → Bool
below n qs = all (λ (q : ℕ). ltb q n) qs

-- one count changed, seen from any queue
set_at : (w : List ℕ) (o n q : ℕ) → o < length w → at (set w o n) q ≡ cond (eqb q o) n (at w q)
set_at w o n q l = go (eqb q o) refl
  where
    go : (b : Bool) → eqb q o ≡ b → at (set w o n) q ≡ cond b n (at w q)
    go true e = ap (at (set w o n)) (eqb-true q o e) ∙ get_or-set_same w o n 0 l
    go false e = get_or-set_other w o q n 0 (eqb-false q o e)

-- either test passed
cond_or : (a b : Bool) (v n : ℕ) → cond b v (cond a v n) ≡ cond (a || b) v n
cond_or true true v n = refl
cond_or true false v n = refl
cond_or false b v n = refl

dealt_at : (qs w : List ℕ) (n k j : ℕ) → below (length w) qs ≡ true → (q : ℕ) →
    at (dealt w n (suc k) j qs) q ≡ cond (member q qs) ((n + k) / suc k) (at w q)
dealt_at [] w n k j h q = refl
dealt_at (r ∷ qs) w n k j h q =
    let p = both (ltb r (length w)) (below (length w) qs) h in
    let v = (n + k) / suc k in
    dealt_at qs (set w r v) n k (suc j) (ap (λ (m : ℕ). below m qs) (length-set w r v) ∙ p.1) q
    ∙ ap (λ (m : ℕ). cond (member q qs) v m) (set_at w r v q (ltb-true r (length w) p.0))
    ∙ cond_or (eqb q r) (member q qs) v (at w q)

-- a sum from its front
abbrev tsum : ℕ → (ℕ → ℕ) → ℕ
tsum = Rattle.order_theory.proofs.Kahn.sum

sum_front : (n : ℕ) (f : ℕ → ℕ) → tsum (suc n) f ≡ f 0 + tsum n (λ j. f (suc j))
unfolding Rattle.order_theory.proofs.Kahn.sum
sum_front zero f = refl
sum_front (suc n) f = omega (arith, sum_front n f)

sum_as : (w ps : List ℕ) → sum (map (λ (p : ℕ). get_or w p 0) ps) ≡ tsum (length ps) (λ j. at w (get_or ps j 0))
unfolding Rattle.order_theory.proofs.Kahn.sum
sum_as w [] = refl
sum_as w (p ∷ ps) = omega (arith, sum_as w ps, sum_front (length ps) (λ j. at w (get_or (p ∷ ps) j 0)))

-- one operator's counts
put_as : (w : List ℕ) (o : Op) → below (length w) (defines o) ≡ true → (q : ℕ) → at (worst_op w o) q ≡ wput (kind_as o) (at w) q
unfolding wput
put_as w (line p o ss) h q = set_at w o (at w p) q (ltb-true o (length w) (both (ltb o (length w)) true h).0)
put_as w (latest p v f) h q = refl
put_as w (double p o r) h q =
    let a = both (ltb o (length w)) _ h in
    let b = both (ltb r (length w)) true a.1 in
    let n = at w p in
    set_at (set w o n) r n q (omega (arith, length-set w o n, ltb-true r (length w) b.0))
    ∙ ap (λ (m : ℕ). cond (eqb q r) n m) (set_at w o n q (ltb-true o (length w) a.0))
    ∙ cond_or (eqb q o) (eqb q r) n (at w q)
put_as w (deal c p []) h q = refl
put_as w (deal c p (r ∷ qs)) h q =
    let e : length qs ≡ suc (length qs) - 1 = omega arith in
    dealt_at (r ∷ qs) w (at w p) (length qs) 0 h q
    ∙ ap (λ (k : ℕ). cond (member q (r ∷ qs)) ((at w p + k) / suc (length qs)) (at w q)) e
put_as w (gather c o ps) h q =
    set_at w o (sum (map (λ (p : ℕ). get_or w p 0) ps)) q (ltb-true o (length w) (both (ltb o (length w)) true h).0)
    ∙ ap (λ (m : ℕ). cond (eqb q o) m (at w q)) (sum_as w ps)

-- all of them, in record order
abbrev as_worst : (ℕ → ℕ) → List Kind → ℕ → ℕ
as_worst = Rattle.order_theory.proofs.WorstOf.worst_of

worst_as : (os : List Op) (w : List ℕ) → all (λ (o : Op). below (length w) (defines o)) os ≡ true → (q : ℕ) →
    at (worst_from w os) q ≡ as_worst (at w) (map kind_as os) q
unfolding Rattle.order_theory.proofs.WorstOf.worst_of
worst_as [] w h q = refl
worst_as (o ∷ os) w h q =
    let p = both (below (length w) (defines o)) (all (λ (x : Op). below (length w) (defines x)) os) h in
    worst_as os (worst_op w o) (ap (λ (n : ℕ). all (λ (x : Op). below n (defines x)) os) (worst_from_length w (o ∷ [])) ∙ p.1) q
    ∙ ap (λ (f : ℕ → ℕ). as_worst f (map kind_as os) q) (fun_ext (put_as w o p.0))

module _ (t : Sheet) (h : check_of t ≡ accepted) where
  all_defined : (n : ℕ) → n ≡ QUEUES → all (λ (o : Op). below n (defines o)) (view_sheet t).ops ≡ true
  all_defined n e =
      let s = sound_of_accepted t h in
      all_of_each (λ (o : Op). below n (defines o)) (double 0 0 0) (view_sheet t).ops
      (λ i l. all_below t.queues n (defines (get_or (view_sheet t).ops i (double 0 0 0))) (omega (arith, s.queues)) (s.each i l).outs)

  -- the answer says that the numbers fed were good
  fed_good : (fed : List ℕ) → is_accepted (worst_of t fed).answer ≡ true → feed_good t.inputs fed ≡ true
  fed_good fed a = go (feed_good t.inputs fed) refl
    where
      go : (b : Bool) → feed_good t.inputs fed ≡ b → b ≡ true
      go true e = refl
      go false e = sym (ap (λ (c : Counting). is_accepted c.answer) (worst_overfed t fed h e)) ∙ a

  module _ (xs : List Feed) (i : to_inputs t xs ≡ true) (r : roomy t xs ≡ true) where
    abbrev pub counted : ℕ → ℕ
    counted q = get_or (worst_of t (numbers_fed xs)).counts q 0

    answered : is_accepted (worst_of t (numbers_fed xs)).answer ≡ true
    answered = (both (is_accepted (worst_of t (numbers_fed xs)).answer) _ r).0

    fed_many : length (numbers_fed xs) ≡ QUEUES
    fed_many = build_length QUEUES (λ (q : ℕ). length (given xs q))

    -- how many are given
    given_many : (q : ℕ) → length (given xs q) ≡ at (numbers_fed xs) q
    given_many q =
        ⊎_elim (λ (l : q < QUEUES). sym (build_get_or QUEUES (λ (k : ℕ). length (given xs k)) 0 q l))
        (λ (l : QUEUES ≤ q).
        let s = sound_of_accepted t h in
        ap length (given_none t xs i q (omega (arith, s.inputs, s.queues)))
        ∙ sym (get_or-eq_default (numbers_fed xs) 0 {n = q} (omega (arith, fed_many))))
        (order q QUEUES)

    pub given_few : (q : ℕ) → length (given xs q) ≤ ROOM
    given_few q = omega (arith, given_many q, fed_most t.inputs (numbers_fed xs) (fed_good (numbers_fed xs) answered) fed_many q)

    counted_as : (q : ℕ) → counted q ≡ as_worst (at (numbers_fed xs)) (kinds_as (view_sheet t)) q
    counted_as q =
        ap (λ (c : Counting). at c.counts q) (worst_counted t (numbers_fed xs) h (fed_good (numbers_fed xs) answered))
        ∙ worst_as (view_sheet t).ops (numbers_fed xs) (all_defined (length (numbers_fed xs)) fed_many) q

    few : (w : List ℕ) → all (λ (n : ℕ). leb n ROOM) w ≡ true → (q : ℕ) → at w q ≤ ROOM
    few w f q =
        ⊎_elim (λ (l : q < length w). leb-true (at w q) ROOM (all_get_d (λ (n : ℕ). leb n ROOM) w 0 f q l))
        (λ (l : length w ≤ q). omega (arith, get_or-eq_default w 0 {n = q} l))
        (order q (length w))

    small : (q : ℕ) → counted q ≤ ROOM
    small = few (worst_of t (numbers_fed xs)).counts (both (is_accepted (worst_of t (numbers_fed xs)).answer) _ r).1

    pub counts_hold : Acc t.inputs t.queues (kinds_as (view_sheet t)) →
        Counted (kinds_as (view_sheet t)) (λ (q : ℕ). items_as (given xs q)) counted
    counts_hold c =
        let ops = kinds_as (view_sheet t) in
        record {
          fed = λ q e.
              let z = tot_none (gives_n q) ops blank (λ k l. not_gives (get_or ops k blank) q (find_none (λ κ. gives κ q) ops k blank e l)) in
              omega (arith, length-map (given xs q) item_as, given_many q, counted_as q, worst_frame ops (at (numbers_fed xs)) q z);
          eqs = λ k l.
              subst (λ (f : ℕ → ℕ). WEq (get_or ops k blank) f) (sym (fun_ext counted_as))
              (all_at (worst_all ops (at (numbers_fed xs)) c.ord c.ways (defs_le t.inputs t.queues ops c)) k blank l);
          small = small;
        }
