-- The sheet that the program builds is the sheet that the text stands for, or both have a head out of range.
-- Assumes nothing.
use Prim.Native.Nat.{ℕ, zero, suc, ◌+◌, ◌<◌, ◌≤◌}
use mathlib.Core.Path.{◌≡◌, refl, ap, ◌∙◌, sym}
use mathlib.Core.Logic.{◌⊎◌, inl, inr, ⊎_elim}
use mathlib.Core.Bool.{Bool, true, cond}
use mathlib.Core.List.{List, [], ◌∷◌, ◌++◌, map}
use native.Mathlib.Omega.{arith}
use lib.Dec.{ltb, leb}
use lib.ListN.{length, get_or, length-map}
use borrow.Author.Tests.{lt-ltb, le-ltb, le-leb, leb-true, eq-eqb}
use Rattle.base_bounds.specs.Bounds.{INPUTS, QUEUES, OPERATORS}
use Rattle.base_lists.specs.Lists.{build, pad, chain}
use Rattle.base_lists.proofs.Build.{order, build_ext, build_all}
use Rattle.base_lists.proofs.Pad.{pad_length, pad_get_or, pad_as_build, pad_build}
use Rattle.base_lists.proofs.Places.{get_d_any}
use Rattle.base_lists.proofs.Members.{all_of_members}
use Rattle.base_lists.proofs.Tests.{both, false_of, or_left}
use Rattle.sheet_operator.specs.Op.{Op, line, latest, double, deal, gather, reads, defines}
use Rattle.sheet_operator.specs.Memory.{PLACES, ways, memory, no_operator}
use Rattle.sheet_format.specs.Head.{head_good}
use Rattle.sheet_format.proofs.Heads.{HeadRanges, ranges_of_good}
use Rattle.sheet.specs.declared.Sheet.{Sheet}
use Rattle.sheet.specs.Answer.{accepted, refused_at}
use Rattle.sheet.specs.Sheet.{missing, memory_sheet}
use Rattle.sheet.specs.Check.{check_of}
use Rattle.sheet.proofs.AnswerLaws.{accepted_apart}
use Rattle.text_scan.specs.Kept.{counted}
use Rattle.text_scan.proofs.Filled.{counted_small, counted_large}
use Rattle.text_grammar.specs.Readers.{Tree}
use Rattle.text_grammar.specs.Tokens.{GoodOp, good_line, good_latest, good_double, good_deal, good_gather, GoodOps, no_ops, one_op, GoodTree, queues}
use Rattle.text_form.specs.Form.{above, sheet_of}
use Rattle.text_form.proofs.Above.{above_is}
use Rattle.text_lists.specs.Names.{kept_of}
use Rattle.text_tree.specs.Tree.{held_of}
use Rattle.text_sheet.specs.Built.{smaller, highest_from, highest_place, highest_of, highest_in, built}
use Rattle.text_sheet.proofs.HighestLaws.{highest_append, highest_pad, highest_is, highest_one, highest_build, Low, highest_of_build}

-- ---- an operator's places in memory

ins_placed : (o : Op) → (memory o).ins ≡ pad PLACES 0 (reads o)
ins_placed (line p q ss) = refl
ins_placed (latest p v f) = refl
ins_placed (double p q r) = refl
ins_placed (deal c p qs) = refl
ins_placed (gather c q ps) = refl

outs_placed : (o : Op) → (memory o).outs ≡ pad PLACES 0 (defines o)
outs_placed (line p q ss) = refl
outs_placed (latest p v f) = refl
outs_placed (double p q r) = refl
outs_placed (deal c p qs) = refl
outs_placed (gather c q ps) = refl

-- what the grammar says of an operator's queues
record Queued (o : Op) : Type 0 where
  few_ins : length (reads o) ≤ PLACES
  few_outs : length (defines o) ≤ PLACES
  low_ins : queues (reads o) ≡ true
  low_outs : queues (defines o) ≡ true

low : {q : ℕ} (qs : List ℕ) → q ≤ 23 → queues qs ≡ true → queues (q ∷ qs) ≡ true
low {q} qs h g = rw (le-leb q 23 h) g

queued : {o : Op} → GoodOp o → Queued o
queued (good_line hp hq g gs l) = record { few_ins = omega arith; few_outs = omega arith; low_ins = low [] hp refl; low_outs = low [] hq refl }
queued (good_latest hp hv hf) = record { few_ins = omega arith; few_outs = omega arith; low_ins = low [] hp refl; low_outs = refl }
queued (good_double {p} {q} {r} hp hq hr) = record { few_ins = omega arith; few_outs = omega arith; low_ins = low [] hp refl; low_outs = low (r ∷ []) hq (low [] hr refl) }
queued (good_deal {v} {p} {q} {r} {qs} hv hp hq hr h l) = record { few_ins = omega arith; few_outs = omega arith; low_ins = low [] hp refl; low_outs = low (r ∷ qs) hq (low qs hr h) }
queued (good_gather {v} {q} {a} {b} {ps} hv hq ha hb h l) = record { few_ins = omega arith; few_outs = omega arith; low_ins = low (b ∷ ps) ha (low ps hb h); low_outs = low [] hq refl }

-- ---- the highest number in the places is the highest name

abbrev named : Op → List ℕ
named o = reads o ++ defines o

four : (l : List ℕ) → ways PLACES (pad PLACES 0 l) ≡ pad PLACES 0 l
four l = build_all (pad PLACES 0 l) 0 PLACES (pad_length PLACES 0 l)

highest_memory : (m : ℕ) (o : Op) → Queued o → highest_place m (memory o) ≡ highest_from m (named o)
highest_memory m o g =
    ap (λ (l : List ℕ). highest_from (highest_from m (ways PLACES l)) (ways PLACES (memory o).outs)) (ins_placed o)
    ∙ ap (λ (l : List ℕ). highest_from (highest_from m (ways PLACES (pad PLACES 0 (reads o)))) (ways PLACES l)) (outs_placed o)
    ∙ ap (λ (l : List ℕ). highest_from (highest_from m l) (ways PLACES (pad PLACES 0 (defines o)))) (four (reads o))
    ∙ ap (λ (l : List ℕ). highest_from (highest_from m (pad PLACES 0 (reads o))) l) (four (defines o))
    ∙ ap (λ (k : ℕ). highest_from k (pad PLACES 0 (defines o))) (highest_pad PLACES m (reads o) g.few_ins)
    ∙ highest_pad PLACES (highest_from m (reads o)) (defines o) g.few_outs
    ∙ sym (highest_append m (reads o) (defines o))

highest_ops : (m : ℕ) {os : List Op} → GoodOps os → highest_of m (map memory os) ≡ highest_from m (chain named os)
highest_ops m no_ops = refl
highest_ops m (one_op {o} {os} g gs) =
    ap (λ (k : ℕ). highest_of k (map memory os)) (highest_memory m o (queued g)) ∙ highest_ops (highest_from m (named o)) gs
    ∙ sym (highest_append m (named o) (chain named os))

-- ---- what the kept parts hold where nothing is out of range

module _ (t : Tree) (g : GoodTree t) (few : length t.inputs ≤ INPUTS) (room : length t.ops ≤ OPERATORS) where
  inputs_held : ways INPUTS (kept_of t.inputs).queues ≡ pad INPUTS 0 t.inputs
  inputs_held =
      build_ext INPUTS (λ (k : ℕ). get_or (pad QUEUES 0 t.inputs) k 0) (λ (k : ℕ). get_or t.inputs k 0)
      (λ k l. pad_get_or QUEUES 0 t.inputs k (omega arith))
      ∙ sym (pad_as_build INPUTS 0 t.inputs)

  count_held : smaller (counted OPERATORS (length t.ops)) OPERATORS ≡ length t.ops
  count_held =
      ap (λ (n : ℕ). smaller n OPERATORS) (counted_small OPERATORS (length t.ops) room)
      ∙ ap (λ (b : Bool). cond b OPERATORS (length t.ops)) (le-ltb OPERATORS (length t.ops) room)

  ops_held : build (length t.ops) (λ (k : ℕ). get_or (held_of t.ops).operators k missing) ≡ map memory t.ops
  ops_held =
      let size = pad_length OPERATORS no_operator (map memory t.ops) in
      build_ext (length t.ops) (λ (k : ℕ). get_or (pad OPERATORS no_operator (map memory t.ops)) k missing)
      (λ (k : ℕ). get_or (pad OPERATORS no_operator (map memory t.ops)) k no_operator)
      (λ k l. get_d_any (pad OPERATORS no_operator (map memory t.ops)) k missing no_operator (omega (arith, size)))
      ∙ pad_build (length t.ops) OPERATORS no_operator (map memory t.ops) (length-map t.ops memory) room

  highest_held : highest_in (kept_of t.inputs) (held_of t.ops) ≡ highest_from 0 (t.inputs ++ chain named t.ops)
  unfolding highest_in
  highest_held =
      ap (λ (n : ℕ). highest_of (highest_from 0 (ways INPUTS (kept_of t.inputs).queues)) (build n (λ (k : ℕ). get_or (held_of t.ops).operators k missing))) count_held
      ∙ ap (highest_of (highest_from 0 (ways INPUTS (kept_of t.inputs).queues))) ops_held
      ∙ ap (λ (l : List ℕ). highest_of (highest_from 0 l) (map memory t.ops)) inputs_held
      ∙ ap (λ (n : ℕ). highest_of n (map memory t.ops)) (highest_pad INPUTS 0 t.inputs few)
      ∙ highest_ops (highest_from 0 t.inputs) g.ops
      ∙ sym (highest_append 0 t.inputs (chain named t.ops))

-- one more than the highest of some numbers
above_highest : (q : ℕ) (l : List ℕ) → above (q ∷ l) ≡ highest_from 0 (q ∷ l) + 1
above_highest q l =
    let h = highest_from 0 (q ∷ l) in
    above_is (q ∷ l) h (all_of_members (λ (k : ℕ). ltb k (suc h)) (q ∷ l) (λ k m. lt-ltb k (suc h) (let i = highest_is 0 (q ∷ l) k m in omega arith)))
    (⊎_elim (λ e. let i = highest_is 0 (q ∷ l) q (or_left _ _ (eq-eqb q q refl)) in or_left _ _ (eq-eqb h q (omega (arith, e)))) (λ m. m) (highest_one 0 (q ∷ l)))
    ∙ omega arith

above_some : (l m : List ℕ) → 1 ≤ length l → above (l ++ m) ≡ highest_from 0 (l ++ m) + 1
above_some [] m h = absurd (omega arith)
above_some (q ∷ l) m h = above_highest q (l ++ m)

-- ---- no number is out of the grammar's range

low_pad : (n : ℕ) (l : List ℕ) (k : ℕ) → queues l ≡ true → get_or (pad n 0 l) k 0 ≤ 23
low_pad zero l k h = omega arith
low_pad (suc n) [] zero h = omega arith
low_pad (suc n) [] (suc k) h = low_pad n [] k h
low_pad (suc n) (q ∷ l) zero h = leb-true q 23 (both (leb q 23) (queues l) h).0
low_pad (suc n) (q ∷ l) (suc k) h = low_pad n l k (both (leb q 23) (queues l) h).1

low_memory : (o : Op) → Queued o → Low 23 (memory o)
low_memory o g =
    record {
      ins = λ k. rw (ins_placed o) (low_pad PLACES (reads o) k g.low_ins);
      outs = λ k. rw (outs_placed o) (low_pad PLACES (defines o) k g.low_outs);
    }

low_empty : Low 23 no_operator
low_empty = record { ins = λ k. low_pad PLACES [] k refl; outs = λ k. low_pad PLACES [] k refl }

low_missing : Low 23 missing
low_missing = record { ins = λ k. omega arith; outs = λ k. omega arith }

low_places : (n : ℕ) {os : List Op} → GoodOps os → (i : ℕ) → Low 23 (get_or (pad n no_operator (map memory os)) i missing)
low_places zero g i = low_missing
low_places (suc n) no_ops zero = low_empty
low_places (suc n) no_ops (suc i) = low_places n no_ops i
low_places (suc n) (one_op {o} g gs) zero = low_memory o (queued g)
low_places (suc n) (one_op g gs) (suc i) = low_places n gs i

module _ (t : Tree) (g : GoodTree t) where
  pub highest_small : highest_in (kept_of t.inputs) (held_of t.ops) < 255
  unfolding highest_in
  highest_small =
      let h =
      highest_of_build (smaller (counted OPERATORS (length t.ops)) OPERATORS) (highest_from 0 (ways INPUTS (pad QUEUES 0 t.inputs))) 23
      (λ (k : ℕ). get_or (pad OPERATORS no_operator (map memory t.ops)) k missing)
      (highest_build INPUTS 0 23 (λ (k : ℕ). get_or (pad QUEUES 0 t.inputs) k 0) (omega arith) (λ k. low_pad QUEUES t.inputs k g.inputs))
      (λ k. low_places OPERATORS g.ops k) in
      omega arith

  -- ---- in range, the sheet that is built is the one that the text stands for

  abbrev pub of_text : Sheet
  of_text = built (kept_of t.inputs) t.variables (held_of t.ops)

  in_range : 1 ≤ length t.inputs → length t.inputs ≤ INPUTS → length t.ops ≤ OPERATORS → of_text ≡ memory_sheet (sheet_of t)
  in_range some few room =
      let ops = pad OPERATORS no_operator (map memory t.ops) in
      let q = highest_held t g few room in
      ap (λ (n : ℕ). record { inputs = n; queues = highest_in (kept_of t.inputs) (held_of t.ops) + 1; variables = t.variables; count = counted OPERATORS (length t.ops); operators = ops })
      (counted_small QUEUES (length t.inputs) (omega arith))
      ∙ ap (λ (n : ℕ). record { inputs = length t.inputs; queues = n; variables = t.variables; count = counted OPERATORS (length t.ops); operators = ops })
      (ap (λ (k : ℕ). k + 1) q ∙ sym (above_some t.inputs (chain named t.ops) some))
      ∙ ap (λ (n : ℕ). record { inputs = length t.inputs; queues = above (t.inputs ++ chain named t.ops); variables = t.variables; count = n; operators = ops })
      (counted_small OPERATORS (length t.ops) room)

  -- ---- else both heads are out of range

  bad_head : (s : Sheet) → (HeadRanges s.inputs s.queues s.variables s.count → ⊥) → check_of s ≡ refused_at 3 0
  unfolding check_of
  bad_head s h =
      rw (false_of (head_good s.inputs s.queues s.variables s.count) (λ e. h (ranges_of_good s.inputs s.queues s.variables s.count e)))

  data Fits : Type 0 where
    fits : 1 ≤ length t.inputs → length t.inputs ≤ INPUTS → length t.ops ≤ OPERATORS → Fits
    fits_not : ((1 ≤ length t.inputs) → length t.inputs ≤ INPUTS → length t.ops ≤ OPERATORS → ⊥) → Fits

  fits_or_not : Fits
  fits_or_not =
      ⊎_elim (λ a. fits_not (λ x y z. omega arith))
      (λ a. ⊎_elim (λ b. fits_not (λ x y z. omega arith))
      (λ b. ⊎_elim (λ c. fits_not (λ x y z. omega arith)) (λ c. fits a b c) (order OPERATORS (length t.ops)))
      (order INPUTS (length t.inputs)))
      (order (length t.inputs) 1)

  small_of : (places n : ℕ) → counted places n ≤ places → n ≤ places
  small_of places n h = ⊎_elim (λ l. absurd (let e = counted_large places n l in omega arith)) (λ l. l) (order places n)

  built_cases : Fits → (of_text ≡ memory_sheet (sheet_of t)) ⊎ ((check_of of_text ≡ refused_at 3 0) × (check_of (memory_sheet (sheet_of t)) ≡ refused_at 3 0))
  built_cases (fits a b c) = inl (in_range a b c)
  built_cases (fits_not f) =
      inr (
        bad_head of_text (λ r.
            let few = small_of QUEUES (length t.inputs) (let i = r.inputs in omega arith) in
            let same = counted_small QUEUES (length t.inputs) few in
            f (let i = r.some in omega arith) (let i = r.inputs in omega arith) (small_of OPERATORS (length t.ops) r.count)),
        bad_head (memory_sheet (sheet_of t)) (λ r. f r.some r.inputs r.count),
      )

  pub check_built : check_of of_text ≡ check_of (memory_sheet (sheet_of t))
  check_built = ⊎_elim (λ e. ap check_of e) (λ e. e.0 ∙ sym e.1) (built_cases fits_or_not)

  pub built_is : check_of of_text ≡ accepted → of_text ≡ memory_sheet (sheet_of t)
  built_is h = ⊎_elim (λ e. e) (λ e. absurd (accepted_apart 3 0 (sym h ∙ e.0))) (built_cases fits_or_not)
