-- What spells a sheet's tokens is read as that sheet.
-- Assumes nothing.
use Prim.Native.Nat.{ℕ, zero, suc, ◌+◌, ◌≤◌}
use mathlib.Core.Path.{◌≡◌, refl, ap, ◌∙◌, sym}
use mathlib.Core.Logic.{⊎_elim}
use mathlib.Core.Bool.{Bool, true, false, cond}
use mathlib.Core.List.{List, [], ◌∷◌, ◌++◌, append_assoc, append-nil}
use native.Mathlib.Omega.{arith}
use lib.Dec.{eqb, leb}
use lib.ListN.{length}
use borrow.Author.Tests.{leb-true, ne_eqb}
use Rattle.base_lists.specs.Lists.{all, chain}
use Rattle.base_lists.proofs.Build.{never}
use Rattle.base_lists.proofs.Tests.{both, or_right}
use Rattle.base_words.specs.Text.{word, natural}
use Rattle.sheet_step.specs.declared.Step.{Step}
use Rattle.sheet_operator.specs.Op.{Op, line}
use Rattle.text_scan.specs.Reader.{Res, got, Reader, bind, ◌>>=◌, ◌>>◌, repeat, BLANKS, is_blank, here, sign, to_end}
use Rattle.text_scan.proofs.Exact.{either}
use Rattle.text_scan.proofs.ExactBytes.{here_in}
use Rattle.text_scan.proofs.Whole.{ended, goes_on}
use Rattle.text_scan.proofs.Binding.{same_bind}
use Rattle.text_grammar.specs.Readers.{decimal, steps, operator, name_turn, snoc, names, head, item, text, Tree, with_op}
use Rattle.text_grammar.specs.Tokens.{tight, must, Token, may_stand, Spells, none, more, at_once, spaced, queue_as, byte_as, step_tokens, steps_tokens, op_tokens, rest_tokens, names_tokens, text_tokens, GoodStep, GoodSteps, one_step, GoodOp, good_line, good_latest, good_double, good_deal, good_gather, GoodOps, one_op, TextOf, queues}
use Rattle.text_grammar.proofs.ExactText.{names_turn, exact_item, no_item}
use Rattle.text_grammar.proofs.CompleteOperators.{Runs, runs_done, runs_sign, runs_word, runs_decimal, runs_queue, runs_byte, runs_arrow, runs_same, runs_sub, runs_as, runs_latest, runs_double, runs_deal, runs_gather, token_reads, sign_first, spells_split}
use Rattle.text_grammar.proofs.CompleteSteps.{runs_step}

-- ---- lines

runs_steps : (k : ℕ) (ts : List Step) (t : Step) (us : List Step) → GoodStep t → GoodSteps us → length us ≤ k →
    Runs [] (step_tokens t.func t ++ (steps_tokens us ++ (at_once "(" ∷ []))) (steps k ts) (ts ++ (t ∷ us))
runs_steps zero ts t [] h hs l = runs_sub (step_tokens t.func t) _ (runs_step h) (runs_sign _ _ refl runs_done)
runs_steps zero ts t (u ∷ us) h hs l = absurd (omega arith)
runs_steps (suc k) ts t [] h hs l = runs_sub (step_tokens t.func t) _ (runs_step h) (runs_sign _ _ refl runs_done)
runs_steps (suc k) ts t (u ∷ us) h (one_step hu hs) l =
    runs_sub (step_tokens t.func t) _ (runs_step h) (runs_sign _ _ refl
    (rw (append_assoc (step_tokens u.func u) (steps_tokens us) (at_once "(" ∷ []))
    (runs_as (ts ++ (t ∷ u ∷ us)) (append_assoc ts (t ∷ []) (u ∷ us)) (runs_steps k (ts ++ (t ∷ [])) u us hu hs (omega arith)))))

line_tokens_lem : (a b c : List Token) (x : Token) → (a ++ b) ++ (x ∷ c) ≡ (a ++ (b ++ (x ∷ []))) ++ c
line_tokens_lem a b c x =
    append_assoc a b (x ∷ c) ∙ sym (append_assoc a (b ++ (x ∷ [])) c ∙ ap (λ (l : List Token). a ++ l) (append_assoc b (x ∷ []) c))

runs_line : (p q : ℕ) (t : Step) (ts : List Step) → p ≤ 23 → q ≤ 23 → GoodStep t → GoodSteps ts → length ts ≤ 3 →
    Runs [] (op_tokens (line p q (t ∷ ts))) operator (line p q (t ∷ ts))
runs_line p q t ts hp hq h hs l =
    runs_sign _ _ refl (runs_sign _ _ refl (runs_decimal 23 _ hq refl (runs_sign _ _ refl (runs_arrow
    (rw (line_tokens_lem (step_tokens t.func t) (steps_tokens ts) (queue_as tight p ∷ at_once ")" ∷ []) (at_once "("))
    (runs_sub (step_tokens t.func t ++ (steps_tokens ts ++ (at_once "(" ∷ []))) _ (runs_steps 3 [] t ts h hs l)
    (runs_queue _ hp refl (runs_sign _ _ refl runs_done))))))))

pub runs_op : {o : Op} → GoodOp o → Runs [] (op_tokens o) operator o
runs_op (good_line {p} {q} {t} {ts} a b c d e) = runs_line p q t ts a b c d e
runs_op (good_latest {p} {v} {f} a b c) = runs_latest p v f a b c
runs_op (good_double {p} {q} {r} a b c) = runs_double p q r a b c
runs_op (good_deal {v} {p} {q} {r} {qs} a b c d e f) = runs_deal v p q r qs a b c d e f
runs_op (good_gather {v} {q} {a} {b} {ps} x y z w e f) = runs_gather v q a b ps x y z w e f

-- ---- lists of names

runs_rest : (xs : List ℕ) (q : ℕ) (qs : List ℕ) → q ≤ 23 → queues qs ≡ true →
    Runs (natural q) (rest_tokens qs ++ (at_once ";" ∷ [])) (repeat (name_turn snoc) xs) (xs ++ (q ∷ qs))
runs_rest xs q [] h hs =
    runs_same (λ s. names_turn snoc xs s ∙ same_bind (decimal 23 s) _ _)
    (runs_decimal 23 _ h refl (runs_same (λ s. same_bind (sign (word ",;") s) _ _) (runs_sign _ _ refl runs_done)))
runs_rest xs q (u ∷ qs) h hs =
    let e = both (leb u 23) _ hs in
    runs_same (λ s. names_turn snoc xs s ∙ same_bind (decimal 23 s) _ _)
    (runs_decimal 23 _ h refl (runs_same (λ s. same_bind (sign (word ",;") s) _ _) (runs_sign _ _ refl
    (runs_same (λ s. same_bind (sign (word "q") s) _ _) (runs_sign _ _ refl
    (runs_as (xs ++ (q ∷ u ∷ qs)) (append_assoc xs (q ∷ []) (u ∷ qs)) (runs_rest (xs ++ (q ∷ [])) u qs (leb-true u 23 e.0) e.1)))))))

blank_no_mark : (x : ℕ) → is_blank x ≡ true → eqb x 59 ≡ false
blank_no_mark x h = ne_eqb x 59 (λ e. never (sym (ap is_blank e) ∙ h))

abbrev pub rest_of : ℕ → Reader (List ℕ)
rest_of c = cond (eqb c 59) (got []) (repeat (name_turn snoc) [])

-- a list that begins after a blank
names_blank : (x : ℕ) (s : List ℕ) → is_blank x ≡ true → names (x ∷ s) ≡ (sign (word "q;") >>= rest_of) s
names_blank x s h =
    ap (λ (y : Res ℕ). bind y (λ (b : ℕ). cond (eqb b 59) (got []) (sign (word "q;") >>= rest_of))) (here_in x (59 ∷ BLANKS) s (or_right (eqb x 59) _ h))
    ∙ ap (λ (c : Bool). cond c (got []) (sign (word "q;") >>= rest_of) s) (blank_no_mark x h)

none_read : (b m : List ℕ) → all is_blank b ≡ true → names (b ++ (59 ∷ m)) ≡ got [] m
unfolding here
none_read [] m h = refl
none_read (x ∷ b) m h =
    let e = both (is_blank x) _ h in
    names_blank x (b ++ (59 ∷ m)) e.0 ∙ ap (λ (y : Res ℕ). bind y rest_of) (sign_first (word "q;") b 59 m e.1 refl refl)

some_read : (q : ℕ) (qs : List ℕ) → q ≤ 23 → queues qs ≡ true → (b m r : List ℕ) → may_stand must b ≡ true →
    Spells (rest_tokens qs ++ (at_once ";" ∷ [])) m r → names (b ++ (113 ∷ (natural q ++ m))) ≡ got (q ∷ qs) r
some_read q qs hq hs [] m r h e = never h
some_read q qs hq hs (x ∷ b) m r h e =
    let f = both (is_blank x) _ h in
    names_blank x (b ++ (113 ∷ (natural q ++ m))) f.0
    ∙ ap (λ (y : Res ℕ). bind y rest_of) (sign_first (word "q;") b 113 (natural q ++ m) f.1 refl refl)
    ∙ (runs_rest [] q qs hq hs).reads m r e

done_at : {s r : List ℕ} (a : List ℕ) → Spells [] s r → got a s ≡ got a r
done_at a none = refl

pub runs_names : (qs : List ℕ) → queues qs ≡ true → Runs [] (names_tokens qs) names qs
runs_names [] h =
    record { reads = token_reads (at_once ";") [] names [] (λ s m r p q. ap names p.text ∙ none_read p.blanks m p.free ∙ done_at [] q) }
runs_names (q ∷ qs) h =
    let e = both (leb q 23) _ h in
    record {
      reads = token_reads (queue_as must q) (rest_tokens qs ++ (at_once ";" ∷ [])) names (q ∷ qs)
          (λ s m r p f. ap names p.text ∙ some_read q qs (leb-true q 23 e.0) e.1 p.blanks m r p.free f);
    }

-- a token before which a blank has to stand
must_read : {A : Type 0} (w : List ℕ) (ts : List Token) (P : Reader A) (a : A) → Runs [] (record { gap = tight; bytes = w } ∷ ts) P a →
    (b m r : List ℕ) → may_stand must b ≡ true → Spells ts m r → (here BLANKS >> P) (b ++ (w ++ m)) ≡ got a r
must_read w ts P a f [] m r h e = never h
must_read w ts P a f (x ∷ b) m r h e =
    let g = both (is_blank x) _ h in
    ap (λ (y : Res ℕ). bind y (λ (c : ℕ). P)) (here_in x BLANKS (b ++ (w ++ m)) g.0)
    ∙ f.reads (b ++ (w ++ m)) r (more (record { blanks = b; free = g.1; text = refl }) e)

runs_must : {A : Type 0} {w : List ℕ} {ts : List Token} {P : Reader A} {a : A} → Runs [] (record { gap = tight; bytes = w } ∷ ts) P a →
    Runs [] (record { gap = must; bytes = w } ∷ ts) (here BLANKS >> P) a
runs_must {A} {w} {ts} {P} {a} f =
    record {
      reads = token_reads (record { gap = must; bytes = w }) ts (here BLANKS >> P) a
          (λ s m r p q. ap (here BLANKS >> P) p.text ∙ must_read w ts P a f p.blanks m r p.free q);
    }

-- ---- the text

abbrev pub head_tokens : List ℕ → List ℕ → ℕ → List Token
head_tokens outs ins v =
    at_once "output" ∷ (names_tokens outs ++ (spaced "input" ∷ (names_tokens ins ++ (spaced "vars" ∷ byte_as must v ∷ at_once ";" ∷ []))))

abbrev pub ops_tokens : List Op → List Token
ops_tokens os = chain (λ (o : Op). op_tokens o ++ (at_once ";" ∷ [])) os

abbrev pub tree_of : List ℕ → List ℕ → ℕ → List Op → Tree
tree_of outs ins v os = record { outputs = outs; inputs = ins; variables = v; ops = os }

runs_head : (outs ins : List ℕ) (v : ℕ) → queues outs ≡ true → queues ins ≡ true → v ≤ 255 → Runs [] (head_tokens outs ins v) head (tree_of outs ins v [])
runs_head outs ins v ho hi hv =
    runs_sign _ _ refl (runs_word (word "utput") (runs_sub (names_tokens outs) _ (runs_names outs ho)
    (runs_sign _ _ refl (runs_word (word "nput") (runs_sub (names_tokens ins) _ (runs_names ins hi)
    (runs_sign _ _ refl (runs_word (word "ars") (runs_must (runs_byte _ hv refl (runs_sign _ _ refl runs_done))))))))))

pub text_tokens_lem : (outs ins : List ℕ) (v : ℕ) (os : List Op) → text_tokens (tree_of outs ins v os) ≡ head_tokens outs ins v ++ ops_tokens os
text_tokens_lem outs ins v os =
    sym (ap (λ (l : List Token). at_once "output" ∷ l)
    (append_assoc (names_tokens outs) (spaced "input" ∷ (names_tokens ins ++ (spaced "vars" ∷ byte_as must v ∷ at_once ";" ∷ []))) (ops_tokens os)
    ∙ ap (λ (l : List Token). names_tokens outs ++ (spaced "input" ∷ l)) (append_assoc (names_tokens ins) (spaced "vars" ∷ byte_as must v ∷ at_once ";" ∷ []) (ops_tokens os))))

runs_item : (t : Tree) {o : Op} → GoodOp o → Runs [] (op_tokens o ++ (at_once ";" ∷ [])) (item t) (tree_of t.outputs t.inputs t.variables (t.ops ++ (o ∷ [])))
runs_item t {o} h = runs_sub (op_tokens o) _ (runs_op h) (runs_sign _ _ refl runs_done)

not_blank : (t u : Tree) (s m : List ℕ) → item t s ≡ got u m → all is_blank s ≡ false
not_blank t u s m e =
    ⊎_elim (λ h. let f = no_item with_op t s h in absurd (let z : ◌≡◌ {A = ℕ} 0 1 = cc in omega arith)) (λ h. h) (either (all is_blank s))

ends_read : (t : Tree) (s r : List ℕ) → Spells [] s r → all is_blank r ≡ true → to_end item t s ≡ got t []
ends_read t s r none h = ended item (exact_item with_op) (no_item with_op) t s h

ops_read : (os : List Op) → GoodOps os → (outs ins : List ℕ) (v : ℕ) (ps : List Op) (s r : List ℕ) → Spells (ops_tokens os) s r → all is_blank r ≡ true →
    to_end item (tree_of outs ins v ps) s ≡ got (tree_of outs ins v (ps ++ os)) []
ops_read [] h outs ins v ps s r e b =
    ends_read (tree_of outs ins v ps) s r e b ∙ ap (λ (l : List Op). got (tree_of outs ins v l) []) (sym (append-nil ps))
ops_read (o ∷ os) (one_op h hs) outs ins v ps s r e b =
    let d = spells_split (op_tokens o ++ (at_once ";" ∷ [])) (ops_tokens os) s r e in
    let t = tree_of outs ins v ps in
    let i = (runs_item t h).reads s d.mid d.first in
    goes_on item (exact_item with_op) (no_item with_op) t s (not_blank t (tree_of outs ins v (ps ++ (o ∷ []))) s d.mid i)
    ∙ ap (λ (x : Res Tree). bind x (to_end item)) i
    ∙ ops_read os hs outs ins v (ps ++ (o ∷ [])) d.mid r d.second b
    ∙ ap (λ (l : List Op). got (tree_of outs ins v l) []) (append_assoc ps (o ∷ []) os)

-- every text of the grammar is read as the sheet that it stands for
pub text_complete : (t : Tree) (s : List ℕ) → TextOf t s → text s ≡ got t []
text_complete t s h =
    let g = h.good in
    let e = text_tokens_lem t.outputs t.inputs t.variables t.ops in
    let d = spells_split (head_tokens t.outputs t.inputs t.variables) (ops_tokens t.ops) s h.rest (rw e at h.spells) in
    ap (λ (x : Res Tree). bind x (to_end item)) ((runs_head t.outputs t.inputs t.variables g.outputs g.inputs g.variables).reads s d.mid d.first)
    ∙ ops_read t.ops g.ops t.outputs t.inputs t.variables [] d.mid h.rest d.second h.blank
