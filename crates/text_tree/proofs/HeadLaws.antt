-- The head with what is kept of its lists, and where they begin.
-- Assumes nothing.
use Prim.Native.Nat.{ℕ}
use mathlib.Core.Path.{◌≡◌, refl, ap, ◌∙◌}
use mathlib.Core.List.{List, []}
use lib.ListN.{drop}
use Rattle.std.specs.Prelude.{Result, Ok}
use Rattle.base_words.specs.Text.{word}
use Rattle.text_scan.specs.declared.Read.{Read}
use Rattle.text_scan.specs.declared.Lost.{Lost}
use Rattle.text_scan.specs.Reader.{Res, got, lost, Reader, bind, ◌>>=◌, ◌>>◌, sign, spell, here, BLANKS}
use Rattle.text_scan.specs.Reads.{same, Reads, after_blanks}
use Rattle.text_scan.proofs.Going.{then}
use Rattle.text_scan.proofs.Binding.{same_bind}
use Rattle.text_grammar.specs.Readers.{Tree, names, byte, head}
use Rattle.text_grammar.specs.Begins.{left_by, output_word, input_word}
use Rattle.text_lists.specs.declared.KeptNames.{KeptNames}
use Rattle.text_lists.specs.declared.NameList.{NameList}
use Rattle.text_lists.specs.Names.{kept_of, ReadsList}
use Rattle.text_tree.specs.declared.TextHead.{TextHead}
use Rattle.text_tree.specs.Tree.{KeptHead, head_of, head_in, Begins}

abbrev kept : List ℕ → Reader KeptNames
kept qs = got (kept_of qs)

abbrev names_kept : Reader KeptNames
names_kept t = bind (names t) kept

-- what follows the two lists
abbrev pub rest : KeptNames → KeptNames → Reader KeptHead
rest outs ins = do
  sign (word "v")
  spell (word "ars")
  here BLANKS
  v ← byte
  sign (word ";")
  got (record { outputs = outs; inputs = ins; variables = v })

abbrev head_kept : Reader KeptHead
head_kept = do
  sign (word "o")
  spell (word "utput")
  outs ← names_kept
  sign (word "i")
  spell (word "nput")
  ins ← names_kept
  rest outs ins

-- what is kept at the end, through one reader after the other
map_bind : {A B C : Type 0} (k : B → C) (x : Res A) (F : A → Reader B) (G : A → Reader C) →
    ((a : A) (t : List ℕ) → G a t ≡ bind (F a t) (λ (b : B). got (k b))) → bind x G ≡ bind (bind x F) (λ (b : B). got (k b))
map_bind k (got a t) F G h = h a t
map_bind k (lost t) F G h = refl

map_kept : {B C : Type 0} (k : B → C) (x : Res (List ℕ)) (F : List ℕ → Reader B) (G : KeptNames → Reader C) →
    ((qs t : List ℕ) → G (kept_of qs) t ≡ bind (F qs t) (λ (b : B). got (k b))) → bind (bind x kept) G ≡ bind (bind x F) (λ (b : B). got (k b))
map_kept k (got a t) F G h = h a t
map_kept k (lost t) F G h = refl

head_kept_lem : (s : List ℕ) → head_kept s ≡ bind (head s) (λ (t : Tree). got (head_of t))
head_kept_lem s =
    map_bind head_of (sign (word "o") s) _ _ (λ b t. map_bind head_of (spell (word "utput") t) _ _ (λ b t. map_kept head_of (names t) _ _
    (λ outs t. map_bind head_of (sign (word "i") t) _ _ (λ b t. map_bind head_of (spell (word "nput") t) _ _ (λ b t. map_kept head_of (names t) _ _
    (λ ins t. map_bind head_of (sign (word "v") t) _ _ (λ b t. map_bind head_of (spell (word "ars") t) _ _ (λ b t. map_bind head_of (here BLANKS t) _ _
    (λ b t. map_bind head_of (byte t) _ _ (λ v t. map_bind head_of (sign (word ";") t) _ _ (λ b t. refl)))))))))))

-- the head has no operators yet
abbrev pub bare : Tree → Tree
bare t = record { outputs = t.outputs; inputs = t.inputs; variables = t.variables; ops = [] }

pub head_bare : (s : List ℕ) → head s ≡ bind (head s) (λ (t : Tree). got (bare t))
head_bare s =
    map_bind bare (sign (word "o") s) _ _ (λ b t. map_bind bare (spell (word "utput") t) _ _ (λ b t. map_bind bare (names t) _ _
    (λ outs t. map_bind bare (sign (word "i") t) _ _ (λ b t. map_bind bare (spell (word "nput") t) _ _ (λ b t. map_bind bare (names t) _ _
    (λ ins t. map_bind bare (sign (word "v") t) _ _ (λ b t. map_bind bare (spell (word "ars") t) _ _ (λ b t. map_bind bare (here BLANKS t) _ _
    (λ b t. map_bind bare (byte t) _ _ (λ v t. map_bind bare (sign (word ";") t) _ _ (λ b t. refl)))))))))))

-- ---- both lists are read

module _ {s : List ℕ} {a b d e : Read ℕ} {o i : Read NameList} (f : Reads same s 0 (sign (word "o")) (Ok a))
    (g : Reads same s a.at (spell (word "utput")) (Ok b)) (n : ReadsList s b.at names (Ok o)) (h : Reads same s o.at (sign (word "i")) (Ok d))
    (k : Reads same s d.at (spell (word "nput")) (Ok e)) (m : ReadsList s e.at names (Ok i)) where
  pub head_then : {r : Result (Read TextHead) Lost} → Reads head_in s i.at (rest o.value.names i.value.names) r →
      Reads head_in s 0 (λ (t : List ℕ). bind (head t) (λ (u : Tree). got (head_of u))) r
  head_then q =
      let all : Reads head_in s 0 head_kept _ = then (λ (x : ℕ). _) f (then _ g (then _ n.names (then _ h (then _ k (then _ m.names q))))) in
      record { within = all.within; reads = all.reads ∙ head_kept_lem s }

  -- where they begin
  output_read : got b.value (drop b.at s) ≡ output_word s
  output_read = (then _ f g).reads

  input_read : got e.value (drop e.at s) ≡ (output_word >> names >> input_word) s
  input_read =
      (then _ h k).reads ∙ ap (λ (x : Res KeptNames). bind x (λ (y : KeptNames). input_word)) n.names.reads
      ∙ same_bind (names (drop b.at s)) kept (λ (y : KeptNames). input_word)
      ∙ ap (λ (x : Res ℕ). bind (bind x (λ (y : ℕ). names)) (λ (qs : List ℕ). input_word)) output_read

  pub begins : (v : ℕ) → Begins s (record { outputs = o.value; inputs = i.value; variables = v })
  begins v =
      record {
        outputs_in_lem = n.start.0;
        outputs_begin = n.start.1 ∙ ap (λ (x : Res ℕ). after_blanks (left_by x)) output_read;
        inputs_in = m.start.0;
        inputs_begin = m.start.1 ∙ ap (λ (x : Res ℕ). after_blanks (left_by x)) input_read;
      }
