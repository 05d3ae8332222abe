-- One turn of each loop: the first queues that are outputs, the first queues, and two lists that are the same up to a place.
-- Assumes nothing.
use Prim.Native.Nat.{ℕ, zero, suc, ◌+◌, ◌<◌, ◌≤◌}
use mathlib.Core.Path.{◌≡◌, refl, ap, ap₂, ◌∙◌, sym}
use mathlib.Core.Bool.{Bool, true, false, cond, not, ◌&&◌}
use mathlib.Core.List.{List, [], ◌∷◌, ◌++◌, append-nil}
use native.Mathlib.Omega.{arith}
use lib.Dec.{eqb, ltb}
use lib.ListN.{length, get_or}
use borrow.Author.Tests.{lt-ltb, eq-eqb, ne_eqb}
use Rattle.base_bounds.specs.Bounds.{OPERATORS, QUEUES}
use Rattle.base_lists.specs.Lists.{build, chain, all}
use Rattle.base_lists.proofs.Build.{build_snoc}
use Rattle.base_lists.proofs.Chains.{chain_snoc}
use Rattle.base_lists.proofs.Tests.{all_more, all_stop}
use Rattle.sheet_operator.specs.Op.{Abstract}
use Rattle.sheet_operator.proofs.InTurn.{all_end}
use Rattle.sheet.specs.declared.Sheet.{Sheet}
use Rattle.sheet.specs.Answer.{accepted}
use Rattle.sheet.specs.Sheet.{view_sheet}
use Rattle.sheet.specs.Check.{check_of}
use Rattle.sheet.proofs.Accepted.{ranges_of_accepted}
use Rattle.sheet.proofs.Placed.{ops_many}
use Rattle.run_machine.specs.Machine.{is_output}
use Rattle.run_machine.specs.Readers.{reader_from, readers_of}
use Rattle.run_machine.proofs.ReaderLaws.{reader_at_lem, output_by_reader}
use Rattle.text_lists.specs.declared.KeptNames.{KeptNames}
use Rattle.text_lists.specs.Names.{kept_of, noted}
use Rattle.text_lists.proofs.Kept.{noted_kept}
use Rattle.text_form.specs.Reading.{same_list}
use Rattle.text_own.specs.Own.{same_kept}

-- ---- the outputs

-- those among the first n queues
abbrev pub outputs_to : Abstract → ℕ → List ℕ
outputs_to a n = chain (λ (q : ℕ). cond (is_output a q) (q ∷ []) []) (build n (λ (q : ℕ). q))

-- a queue is one exactly if the table has no reader of it
output_at : (t : Sheet) → check_of t ≡ accepted → (q : ℕ) → q < t.queues →
    is_output (view_sheet t) q ≡ not (ltb (get_or (readers_of (view_sheet t).ops) q OPERATORS) OPERATORS)
output_at t h q l =
    let a = view_sheet t in
    let g = ranges_of_accepted t h in
    output_by_reader a q (omega (arith, ops_many t, g.count))
    ∙ ap (λ (b : Bool). b && not (ltb (reader_from a.ops 0 q) OPERATORS)) (lt-ltb q t.queues l)
    ∙ ap (λ (k : ℕ). not (ltb k OPERATORS)) (sym (reader_at_lem a.ops q (omega (arith, g.queues))))

noted_or_not : (read : Bool) (l : List ℕ) (q : ℕ) → cond read (kept_of l) (noted (kept_of l) q) ≡ kept_of (l ++ cond (not read) (q ∷ []) [])
noted_or_not true l q = ap kept_of (sym (append-nil l))
noted_or_not false l q = noted_kept l q

pub outputs_more : (t : Sheet) → check_of t ≡ accepted → (names next : KeptNames) (q i : ℕ) (rs : List ℕ) →
    names ≡ kept_of (outputs_to (view_sheet t) q) → q < t.queues → rs ≡ readers_of (view_sheet t).ops → i ≡ get_or rs q OPERATORS →
    next ≡ cond (ltb i OPERATORS) names (noted names q) → next ≡ kept_of (outputs_to (view_sheet t) (q + 1))
outputs_more t h names next q i rs e l d g n =
    let a = view_sheet t in
    let j = get_or (readers_of a.ops) q OPERATORS in
    n
    ∙ ap₂ (λ (k : ℕ) (m : KeptNames). cond (ltb k OPERATORS) m (noted m q)) (g ∙ ap (λ (r : List ℕ). get_or r q OPERATORS) d) e
    ∙ noted_or_not (ltb j OPERATORS) (outputs_to a q) q
    ∙ ap (λ (b : Bool). kept_of (outputs_to a q ++ cond b (q ∷ []) [])) (sym (output_at t h q l))
    ∙ ap kept_of (sym (chain_snoc (λ (q : ℕ). cond (is_output a q) (q ∷ []) []) q (λ (q : ℕ). q)))

-- ---- the inputs

pub inputs_more : (names next : KeptNames) (q : ℕ) → names ≡ kept_of (build q (λ (k : ℕ). k)) → next ≡ noted names q →
    next ≡ kept_of (build (q + 1) (λ (k : ℕ). k))
inputs_more names next q e n =
    n ∙ ap (λ (m : KeptNames). noted m q) e ∙ noted_kept (build q (λ (k : ℕ). k)) q ∙ ap kept_of (sym (build_snoc q (λ (k : ℕ). k)))

-- ---- two lists, place by place

abbrev same_at : List ℕ → List ℕ → ℕ → Bool
same_at l m k = eqb (get_or l k 0) (get_or m k 0)

same_by_places : (n : ℕ) (l m : List ℕ) → length l ≡ n → length m ≡ n → same_list l m ≡ all (λ (b : Bool). b) (build n (same_at l m))
same_by_places zero [] [] e d = refl
same_by_places zero [] (y ∷ m) e d = absurd (omega arith)
same_by_places zero (x ∷ l) m e d = absurd (omega arith)
same_by_places (suc n) [] m e d = absurd (omega arith)
same_by_places (suc n) (x ∷ l) [] e d = absurd (omega arith)
same_by_places (suc n) (x ∷ l) (y ∷ m) e d = ap (λ (b : Bool). eqb x y && b) (same_by_places n l m (omega arith) (omega arith))

-- the first k places hold the same
abbrev pub SameTo : List ℕ → List ℕ → ℕ → Type 0
SameTo l m k = all (λ (b : Bool). b) (build k (same_at l m)) ≡ true

pub same_more : (l m : List ℕ) (k : ℕ) → SameTo l m k → get_or l k 0 ≡ get_or m k 0 → SameTo l m (k + 1)
same_more l m k h e = all_more (λ (b : Bool). b) k (same_at l m) h (eq-eqb (get_or l k 0) (get_or m k 0) e)

module _ (a b : KeptNames) where
  pub counts_apart : (a.count ≡ b.count → ⊥) → false ≡ same_kept a b
  counts_apart h = sym (ap (λ (c : Bool). c && same_list a.queues b.queues) (ne_eqb a.count b.count h))

  module _ (a_full : length a.queues ≡ QUEUES) (b_full : length b.queues ≡ QUEUES) (counts : a.count ≡ b.count) where
    kept_by_places : same_kept a b ≡ all (λ (b : Bool). b) (build QUEUES (same_at a.queues b.queues))
    kept_by_places =
        ap (λ (c : Bool). c && same_list a.queues b.queues) (eq-eqb a.count b.count counts)
        ∙ same_by_places QUEUES a.queues b.queues a_full b_full

    pub places_apart : (k : ℕ) → k < QUEUES → (get_or a.queues k 0 ≡ get_or b.queues k 0 → ⊥) → false ≡ same_kept a b
    places_apart k l h =
        sym (kept_by_places ∙ all_stop (λ (b : Bool). b) QUEUES k (same_at a.queues b.queues) l (ne_eqb (get_or a.queues k 0) (get_or b.queues k 0) h))

    pub all_same : (k : ℕ) → k ≤ QUEUES → QUEUES ≤ k → SameTo a.queues b.queues k → true ≡ same_kept a b
    all_same k l m h = all_end (λ (b : Bool). b) QUEUES k (same_at a.queues b.queues) l m h ∙ sym kept_by_places
