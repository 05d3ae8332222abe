-- What reading answers, from what the head, the operators and the check came to.
-- Assumes nothing.
use Prim.Native.Nat.{ℕ, ◌-◌, ◌<◌, ◌≤◌}
use mathlib.Core.Path.{◌≡◌, refl, ap, ◌∙◌, sym, subst}
use mathlib.Core.Bool.{Bool, false, cond}
use mathlib.Core.List.{List, []}
use mathlib.Core.Option.{some, none}
use native.Mathlib.Omega.{arith}
use lib.ListN.{length, drop, length-drop}
use Rattle.std.specs.Prelude.{Result, Ok, Err}
use Rattle.std.specs.Result.{result_unwrap_or}
use Rattle.base_lists.specs.Lists.{build}
use Rattle.base_lists.proofs.Build.{never}
use Rattle.sheet_operator.specs.Op.{Abstract}
use Rattle.sheet.specs.declared.Sheet.{Sheet}
use Rattle.sheet.specs.Answer.{Paper, accepted, is_accepted}
use Rattle.sheet.specs.Sheet.{view_sheet, memory_sheet, no_sheet}
use Rattle.sheet.specs.Check.{check_of}
use Rattle.sheet.proofs.Accepted.{ranges_of_accepted}
use Rattle.sheet.proofs.Placed.{view_back}
use Rattle.text_scan.specs.declared.Read.{Read}
use Rattle.text_scan.specs.declared.Lost.{Lost}
use Rattle.text_scan.specs.Reader.{Res, got, lost}
use Rattle.text_grammar.specs.Readers.{Tree, text}
use Rattle.text_grammar.specs.Tokens.{GoodTree}
use Rattle.text_grammar.specs.Begins.{from_outputs, from_inputs}
use Rattle.text_form.specs.Form.{outputs_of, inputs_of, tree_of, sheet_of}
use Rattle.text_form.specs.Reading.{TextPaper, outside, spotted, is_read, byte_of, same_list, lists_answer, tree_answer, TextReading, read_tree, read_text_of}
use Rattle.text_form.proofs.GoodSheet.{small_ops}
use Rattle.text_lists.specs.Names.{kept_of}
use Rattle.text_tree.specs.declared.TextHead.{TextHead}
use Rattle.text_tree.specs.declared.HeldOperators.{HeldOperators}
use Rattle.text_tree.specs.Tree.{KeptHead, head_of, head_in, held_of, ReadsOperators, Heads, Begins}
use Rattle.text_sheet.specs.Built.{highest_in, built}
use Rattle.text_sheet.proofs.BuiltLaws.{of_text, highest_small, check_built, built_is}
use Rattle.text_own.specs.Own.{same_kept}
use Rattle.text_own.proofs.Own.{same_kept_lem, outputs_short, inputs_short}
use Rattle.text_read.specs.declared.TextRefusal.{TextRefusal}
use Rattle.text_read.specs.declared.TextRefusal.TheVariants as refusal
use Rattle.text_read.specs.Answer.{text_paper}
use Rattle.text_read.specs.Reads.{kept_answer, ReadsText}
use Rattle.text_read.proofs.Came.{head_lost, operators_lost, Came}

-- a place in the text is the byte at which what is left begins
byte_at : (s left : List ℕ) (at : ℕ) → at ≤ length s → drop at s ≡ left → byte_of s left ≡ at
byte_at s left at l e = let n : length left ≡ length s - at = ap length (sym e) ∙ length-drop at s in omega arith

read_as : (s : List ℕ) (r : Res Tree) → text s ≡ r → read_text_of s ≡ read_tree s r
unfolding read_text_of
read_as s r e = ap (read_tree s) e

-- ---- a text of the grammar that stands for t

module _ (s : List ℕ) (t : Tree) (reads : text s ≡ got t []) (g : GoodTree t) where
  told : read_text_of s ≡ record { answer = tree_answer s t; sheet = cond (is_read (tree_answer s t)) (memory_sheet (sheet_of t)) no_sheet }
  told = read_as s (got t []) reads

  answer_of : (p : Paper) → check_of (of_text t g) ≡ p → tree_answer s t ≡ cond (is_accepted p) (lists_answer s t (tree_of (sheet_of t))) (spotted p)
  unfolding tree_answer
  answer_of p e =
      ap (λ (q : Paper). cond (is_accepted q) (lists_answer s t (tree_of (sheet_of t))) (spotted q)) (sym (check_built t g) ∙ e)

  -- its sheet is refused
  tree_refused : (p : Paper) → check_of (of_text t g) ≡ p → is_accepted p ≡ false → read_text_of s ≡ record { answer = spotted p; sheet = no_sheet }
  tree_refused none e h = never (sym h)
  tree_refused (some x) e h =
      told ∙ ap (λ (p : TextPaper). record { answer = p; sheet = cond (is_read p) (memory_sheet (sheet_of t)) no_sheet }) (answer_of (some x) e)

  -- or accepted: then its lists decide
  module _ (h : TextHead) (a : Begins s h) (same : head_in h ≡ head_of t) (good : check_of (of_text t g) ≡ accepted) where
    accepted_too : check_of (memory_sheet (sheet_of t)) ≡ accepted
    accepted_too = sym (check_built t g) ∙ good

    view_is : view_sheet (memory_sheet (sheet_of t)) ≡ sheet_of t
    view_is = view_back (sheet_of t) (ranges_of_accepted (memory_sheet (sheet_of t)) accepted_too).count (small_ops g.ops)

    same_outputs : same_kept h.outputs.names (kept_of (outputs_of (view_sheet (memory_sheet (sheet_of t))))) ≡ same_list t.outputs (outputs_of (sheet_of t))
    same_outputs =
        ap (λ (k : KeptHead). same_kept k.outputs (kept_of (outputs_of (view_sheet (memory_sheet (sheet_of t)))))) same
        ∙ same_kept_lem t.outputs (outputs_of (view_sheet (memory_sheet (sheet_of t)))) (outputs_short (memory_sheet (sheet_of t)) accepted_too)
        ∙ ap (λ (v : Abstract). same_list t.outputs (outputs_of v)) view_is

    same_inputs : same_kept h.inputs.names (kept_of (build (length t.inputs) (λ (q : ℕ). q))) ≡ same_list t.inputs (inputs_of (sheet_of t))
    same_inputs =
        ap (λ (k : KeptHead). same_kept k.inputs (kept_of (build (length t.inputs) (λ (q : ℕ). q)))) same
        ∙ same_kept_lem t.inputs (build (length t.inputs) (λ (q : ℕ). q)) (inputs_short (memory_sheet (sheet_of t)) accepted_too)

    lists_by_lem : {x y u v : Bool} {m n i j : ℕ} → x ≡ u → y ≡ v → m ≡ i → n ≡ j →
        ◌≡◌ {A = TextPaper} (cond x (cond y none (outside n)) (outside m)) (cond u (cond v none (outside j)) (outside i))
    lists_by_lem a b c d = rw (a, b, c, d)

    kept_is : kept_answer h (memory_sheet (sheet_of t)) ≡ lists_answer s t (tree_of (sheet_of t))
    kept_is =
        lists_by_lem same_outputs same_inputs (sym (byte_at s (from_outputs s) h.outputs.start a.outputs_in_lem a.outputs_begin))
        (sym (byte_at s (from_inputs s) h.inputs.start a.inputs_in a.inputs_begin))

    tree_lists : read_text_of s
        ≡ record { answer = kept_answer h (of_text t g); sheet = cond (is_read (kept_answer h (of_text t g))) (of_text t g) no_sheet }
    tree_lists =
        told ∙ ap (λ (p : TextPaper). record { answer = p; sheet = cond (is_read p) (memory_sheet (sheet_of t)) no_sheet }) (answer_of none good ∙ sym kept_is)
        ∙ ap (λ (b : Sheet). record { answer = kept_answer h b; sheet = cond (is_read (kept_answer h b)) b no_sheet }) (sym (built_is t g good))

-- ---- what the answer is by the check of the sheet that was built

pub record Told (s : List ℕ) (h : TextHead) (b : Sheet) : Type 0 where
  pub refused : (p : Paper) → check_of b ≡ p → is_accepted p ≡ false → read_text_of s ≡ record { answer = spotted p; sheet = no_sheet }
  pub lists : check_of b ≡ accepted → read_text_of s ≡ record { answer = kept_answer h b; sheet = cond (is_read (kept_answer h b)) b no_sheet }

module _ {s : List ℕ} {h : TextHead} {f : HeldOperators} (c : Came s h f) where
  pub told_small : highest_in h.inputs.names f < 255
  told_small =
      let m : highest_in h.inputs.names f ≡ highest_in (kept_of c.tree.inputs) (held_of c.tree.ops) =
      ap (λ (q : KeptHead). highest_in q.inputs f) c.head ∙ ap (highest_in (kept_of c.tree.inputs)) c.held in
      let l = highest_small c.tree c.good in
      omega arith

  pub told_of_check : Begins s h → {b : Sheet} → b ≡ built h.inputs.names h.variables f → Told s h b
  told_of_check a {b} e =
      let d : b ≡ of_text c.tree c.good =
      e ∙ ap (λ (q : KeptHead). built q.inputs q.variables f) c.head ∙ ap (built (kept_of c.tree.inputs) c.tree.variables) c.held in
      subst (Told s h) (sym d)
      (record { refused = tree_refused s c.tree c.reads c.good; lists = tree_lists s c.tree c.reads c.good h a c.head })

-- ---- the functions' answers

pub reads_told : (s : List ℕ) (r : Result Sheet TextRefusal) (p : TextPaper) (b : Sheet) → read_text_of s ≡ record { answer = p; sheet = b } → text_paper r ≡ p →
    result_unwrap_or r no_sheet ≡ b → ReadsText s r
reads_told s r p b e a c =
    record { answer = a ∙ sym (ap (λ (x : TextReading). x.answer) e); sheet = c ∙ sym (ap (λ (x : TextReading). x.sheet) e) }

module _ {s : List ℕ} where
  outside_told : (e : Lost) → e.at ≤ length s → text s ≡ lost (drop e.at s) → ReadsText s (Err (refusal.Outside e.at))
  outside_told e l f =
      reads_told s _ _ _
      (read_as s (lost (drop e.at s)) f
      ∙ ap (λ (b : ℕ). record { answer = outside b; sheet = no_sheet }) (byte_at s (drop e.at s) e.at l refl)) refl refl

  pub head_told : {e : Lost} → Heads s (Err e) → ReadsText s (Err (refusal.Outside e.at))
  head_told {e} a = outside_told e a.reads.within (head_lost a)

  pub operators_told : {h : Read TextHead} {e : Lost} → Heads s (Ok h) → ReadsOperators s h.at (Err e) → ReadsText s (Err (refusal.Outside e.at))
  operators_told {h} {e} a g = outside_told e g.within (operators_lost a g)
