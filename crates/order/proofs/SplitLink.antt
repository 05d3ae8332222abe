-- Split: the parted sheet is good again, and made as the theory makes it.
-- Assumes nothing.
use mathlib.Core.Path.{◌≡◌, refl, ap, ap₂, sym, ◌∙◌, subst, subst₂}
use mathlib.Core.Bool.{true, cond, ◌&&◌}
use mathlib.Core.List.{List, ◌∷◌, ◌++◌, map, map-append}
use Prim.Native.Nat.{ℕ, zero, suc, ◌+◌, ◌*◌, ◌<◌, ◌≤◌}
use native.Mathlib.Numerals.{add-one}
use native.Mathlib.Omega.{arith}
use lib.Dec.{ltb, leb, eqb}
use lib.ListN.{length, take, drop, length-append}
use lib.Seq.{split_at, append_snoc}
use borrow.Author.Tests.{ltb-true, lt-ltb, leb-true}
use Rattle.base_lists.specs.Lists.{all, build}
use Rattle.base_lists.proofs.Build.{build_ext, build_length, build_get_or}
use Rattle.base_lists.proofs.Tests.{both, all_implies}
use Rattle.sheet_step.specs.Step.{row_of, known_func, step_variable, NO_VARIABLE}
use Rattle.sheet_step.specs.declared.Func.{Func}
use Rattle.sheet_step.specs.declared.Func.TheVariants.{None, Keep, Add, Copy, Count, Stamp}
use Rattle.sheet_step.specs.declared.Step.{Step}
use Rattle.sheet_operator.specs.Op.{Op, line, latest, double, deal, gather, Abstract}
use Rattle.sheet_operator.specs.Memory.{PLACES}
use Rattle.sheet_judge.specs.Judge.{variables_good, seven}
use Rattle.base_bounds.specs.Bounds.{OPERATORS, VARIABLES, QUEUES}
use Rattle.rewrite_rules.specs.Rewrite.{is_line, in_of, out_of, steps_of, at, parted, room_to_split, touches_none, writes_some}
use Rattle.order_theory.proofs.Equations.{Kind}
use Rattle.order_theory.proofs.Rewrites.{All, none_left, also, first, rest, all_join, all_left, all_right, all_of, range, lines}
use Rattle.order_theory.proofs.Final.{Made, as_is, splitted, made}
use Rattle.order.proofs.Model.{step_as, kind_as}
use Rattle.order.proofs.GoodSheets.{GoodOp, GoodSheet, Next, over, good_line}
use Rattle.order.proofs.TwoLines.{is_line_lem}
use Rattle.order.proofs.StepMasks.{total_steps}

-- the theory's new queues and lines are the rewriter's
range_build : (q n : ℕ) → range q n ≡ build n (λ (j : ℕ). q + j)
unfolding range
range_build q zero = refl
range_build q (suc n) =
    let z : q ≡ q + 0 = omega arith in
    ap₂ (λ (x : ℕ) (l : List ℕ). x ∷ l) z
    (range_build (suc q) n ∙ build_ext n (λ (j : ℕ). suc q + j) (λ (j : ℕ). q + suc j) (λ j l. omega arith))

lines_build : (q r n : ℕ) (ss : List Step) → lines q r n (map step_as ss) ≡ map kind_as (build n (λ (j : ℕ). line (q + j) (r + j) ss))
unfolding lines
lines_build q r zero ss = refl
lines_build q r (suc n) ss =
    let z : (x : ℕ) → x ≡ x + 0 = λ x. omega arith in
    let w : (x j : ℕ) → suc x + j ≡ x + suc j = λ x j. omega arith in
    ap₂ (λ (x : Kind) (l : List Kind). x ∷ l) (ap₂ (λ (x y : ℕ). kind_as (line x y ss)) (z q) (z r))
    (lines_build (suc q) (suc r) n ss
    ∙ ap (map kind_as)
    (build_ext n (λ (j : ℕ). line (suc q + j) (suc r + j) ss) (λ (j : ℕ). line (q + suc j) (r + suc j) ss)
    (λ j l. ap₂ (λ (x y : ℕ). line x y ss) (w q j) (w r j))))

-- more variables do no harm
variable_by : (f : Func) (v n m : ℕ) → n ≤ m → cond (known_func f) (cond (row_of f).variable (ltb v n) (eqb v NO_VARIABLE)) true ≡ true →
    cond (known_func f) (cond (row_of f).variable (ltb v m) (eqb v NO_VARIABLE)) true ≡ true
variable_by None v n m l h = refl
variable_by Keep v n m l h = h
variable_by Add v n m l h = h
variable_by Copy v n m l h = h
variable_by Count v n m l h = lt-ltb v m (omega (arith, ltb-true v n h))
variable_by Stamp v n m l h = lt-ltb v m (omega (arith, ltb-true v n h))

more_step : (n m : ℕ) (s : Step) → n ≤ m → step_variable n s ≡ true → step_variable m s ≡ true
unfolding step_variable
more_step n m s l h = variable_by s.func s.variable n m l h

more_below : (n m v : ℕ) → n ≤ m → ltb v n ≡ true → ltb v m ≡ true
more_below n m v l h = lt-ltb v m (omega (arith, ltb-true v n h))

more_variables : (n m : ℕ) (o : Op) → n ≤ m → variables_good n o ≡ true → variables_good m o ≡ true
more_variables n m (line p q ss) l h = all_implies (step_variable n) (step_variable m) ss (λ s e. more_step n m s l e) h
more_variables n m (latest p v f) l h = more_below n m v l h
more_variables n m (double p q r) l h = refl
more_variables n m (deal c p qs) l h = more_below n m c l h
more_variables n m (gather c q ps) l h = more_below n m c l h

more_good : (n m : ℕ) → n ≤ m → {os : List Op} → All (GoodOp n) os → All (GoodOp m) os
more_good n m l none_left = none_left
more_good n m l (also {x = o} {xs = os} g a) =
    also {x = o} (record { small = g.small; six = more_variables n m o l g.six; seven = g.seven }) (more_good n m l a)

module _ (a : Abstract) (p o k : ℕ) (ss : List Step) (pre post : List Op) where
  abbrev whole : List Op
  whole = pre ++ (line p o ss ∷ post)

  abbrev ways : List Op
  ways = build k (λ (j : ℕ). line (a.queues + j) (a.queues + k + j) ss)

  abbrev dealing : Op
  dealing = deal a.variables p (build k (λ (j : ℕ). a.queues + j))

  abbrev gathering : Op
  gathering = gather (a.variables + 1) o (build k (λ (j : ℕ). a.queues + k + j))

  abbrev parts : List Op
  parts = pre ++ (dealing ∷ (ways ++ (gathering ∷ post)))

  abbrev parted_sheet : Abstract
  parted_sheet = record { inputs = a.inputs; queues = a.queues + 2 * k; variables = a.variables + 2; ops = parts }

  parts_kinds :
      Rattle.order_theory.proofs.MoreAcc.split a.inputs a.queues a.variables p o k (map step_as ss) (map kind_as pre) (map kind_as post) ≡ map kind_as parts
  parts_kinds =
      let d : Rattle.order_theory.proofs.Equations.deal a.variables p (range a.queues k) ≡ kind_as dealing =
      ap (λ (l : List ℕ). Rattle.order_theory.proofs.Equations.deal a.variables p l) (range_build a.queues k) in
      let g : Rattle.order_theory.proofs.Equations.gather (suc a.variables) o (range (a.queues + k) k) ≡ kind_as gathering =
      ap₂ (λ (c : ℕ) (l : List ℕ). Rattle.order_theory.proofs.Equations.gather c o l) (sym (add-one a.variables)) (range_build (a.queues + k) k) in
      let w = lines_build a.queues (a.queues + k) k ss in
      ap₂ (λ (x : Kind) (l : List Kind). map kind_as pre ++ (x ∷ l)) d
      (ap₂ (λ (l : List Kind) (y : Kind). l ++ (y ∷ map kind_as post)) w g ∙ sym (map-append kind_as ways (gathering ∷ post)))
      ∙ sym (map-append kind_as pre (dealing ∷ (ways ++ (gathering ∷ post))))

  -- as the theory makes it
  pub parted_made : 0 < k → all (λ (t : Step). touches_none t && writes_some t) ss ≡ true → {I Q v : ℕ} {ops : List Kind} →
      Made I Q v ops a.queues a.variables (map kind_as whole) → Made I Q v ops (a.queues + 2 * k) (a.variables + 2) (map kind_as parts)
  parted_made l h {I} {Q} {v} {ops} x =
      let q : a.queues + (k + k) ≡ a.queues + 2 * k = omega arith in
      let n : suc (suc a.variables) ≡ a.variables + 2 = omega arith in
      let y =
      splitted p o k (map step_as ss) (map kind_as pre) (map kind_as post) l (total_steps ss h)
      (subst (Made I Q v ops a.queues a.variables) (map-append kind_as pre (line p o ss ∷ post)) x) in
      subst (λ (c : ℕ). Made I Q v ops c (a.variables + 2) (map kind_as parts)) q
      (subst₂ (Made I Q v ops (a.queues + (k + k))) n parts_kinds y)

  module _ (g : GoodSheet (over a whole)) (two : 2 ≤ k) (four : k ≤ PLACES) (room : room_to_split (over a whole) k ≡ true)
      (h : all (λ (t : Step). touches_none t && writes_some t) ss ≡ true) where
    parts_length : length parts ≡ length whole + k + 1
    parts_length =
        let e = length-append pre (dealing ∷ (ways ++ (gathering ∷ post))) in
        let f = length-append ways (gathering ∷ post) in
        let d = length-append pre (line p o ss ∷ post) in
        let n = build_length k (λ (j : ℕ). line (a.queues + j) (a.queues + k + j) ss) in
        omega arith

    after_pre : All (GoodOp a.variables) (line p o ss ∷ post)
    after_pre = all_right pre (line p o ss ∷ post) g.each

    new_good : (x y : ℕ) → GoodOp (a.variables + 2) (line x y ss)
    new_good x y =
        good_line (a.variables + 2) p o x y ss
        (first (more_good a.variables (a.variables + 2) (omega arith) after_pre))

    good_dealing : GoodOp (a.variables + 2) dealing
    unfolding seven
    good_dealing =
        let n = build_length k (λ (j : ℕ). a.queues + j) in
        record { small = (omega arith, omega arith); six = lt-ltb a.variables (a.variables + 2) (omega arith); seven = refl }

    good_gathering : GoodOp (a.variables + 2) gathering
    unfolding seven
    good_gathering =
        let n = build_length k (λ (j : ℕ). a.queues + k + j) in
        record { small = (omega arith, omega arith); six = lt-ltb (a.variables + 1) (a.variables + 2) (omega arith); seven = refl }

    good_ways : All (GoodOp (a.variables + 2)) ways
    good_ways =
        let f : ℕ → Op = λ j. line (a.queues + j) (a.queues + k + j) ss in
        let n = build_length k f in
        all_of ways (double 0 0 0)
        (λ i l. subst (GoodOp (a.variables + 2)) (sym (build_get_or k f (double 0 0 0) i (omega arith))) (new_good (a.queues + i) (a.queues + k + i)))

    parts_each : All (GoodOp (a.variables + 2)) parts
    parts_each =
        all_join (more_good a.variables (a.variables + 2) (omega arith) (all_left pre (line p o ss ∷ post) g.each))
        (also {x = dealing} good_dealing
        (all_join good_ways (also {x = gathering} good_gathering (more_good a.variables (a.variables + 2) (omega arith) (rest after_pre)))))

    pub parted_good : GoodSheet parted_sheet
    parted_good =
        let r = both (leb (a.queues + 2 * k) QUEUES) (leb (a.variables + 2) VARIABLES && leb (length whole + k + 1) OPERATORS) room in
        let s = both (leb (a.variables + 2) VARIABLES) (leb (length whole + k + 1) OPERATORS) r.1 in
        record {
          head =
              record {
                some = g.head.some;
                inputs = g.head.inputs;
                within = omega (arith, g.head.within);
                queues = leb-true (a.queues + 2 * k) QUEUES r.0;
                variables = leb-true (a.variables + 2) VARIABLES s.0;
                count = rw parts_length (leb-true (length whole + k + 1) OPERATORS s.1);
              };
          calm = (made (parted_made (omega arith) h as_is) g.calm).calm;
          each = parts_each;
        }

-- on a sheet
pub split_next : (a : Abstract) (i k : ℕ) → GoodSheet a → i < length a.ops → is_line (at a i) ≡ true → 2 ≤ k → k ≤ PLACES → room_to_split a k ≡ true →
    all (λ (t : Step). touches_none t && writes_some t) (steps_of (at a i)) ≡ true → Next a (parted a i k)
split_next a i k g l one two four room h =
    let ss = steps_of (at a i) in
    let p = in_of (at a i) in
    let o = out_of (at a i) in
    let pre = take i a.ops in
    let post = drop (i + 1) a.ops in
    let cut : a.ops ≡ whole a p o k ss pre post =
    split_at a.ops i (double 0 0 0) l
    ∙ ap₂ (λ (x : Op) (n : ℕ). take i a.ops ++ (x ∷ drop n a.ops)) (is_line_lem (at a i) one) (sym (add-one i)) in
    let joined : parts a p o k ss pre post ≡ (parted a i k).ops =
    ap (λ (os : List Op). pre ++ (dealing a p o k ss pre post ∷ os))
    (sym (append_snoc (ways a p o k ss pre post) (gathering a p o k ss pre post) post)) in
    subst (λ (os : List Op). Next a (record { inputs = a.inputs; queues = a.queues + 2 * k; variables = a.variables + 2; ops = os })) joined
    (record {
      good =
          parted_good a p o k ss pre post (subst (λ (os : List Op). GoodSheet (over a os)) cut g) two four
          (subst (λ (os : List Op). room_to_split (over a os) k ≡ true) cut room) h;
      inputs = refl;
      made = λ {I} {Q} {v} {ops} x.
          parted_made a p o k ss pre post (omega arith) h
          (subst (λ (os : List Op). Made I Q v ops a.queues a.variables (map kind_as os)) cut x);
    })
