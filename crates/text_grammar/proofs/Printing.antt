-- The printed form spells its tokens, so what was printed is read back.
-- Assumes nothing.
use Prim.Native.Nat.{ℕ}
use mathlib.Core.Path.{◌≡◌, refl, ◌∙◌}
use mathlib.Core.Bool.{true}
use mathlib.Core.List.{List, [], ◌∷◌, ◌++◌, append_assoc, append-nil}
use Rattle.text_scan.specs.Reader.{got}
use Rattle.text_grammar.specs.Readers.{Tree, text}
use Rattle.text_grammar.specs.Tokens.{Gap, tight, loose, must, Token, may_stand, Spells, none, more, space_of, printed, text_tokens, GoodTree, TextOf}
use Rattle.text_grammar.proofs.CompleteText.{text_complete}

may_space : (g : Gap) → may_stand g (space_of g) ≡ true
may_space tight = refl
may_space loose = refl
may_space must = refl

pub spells_printed : (ts : List Token) (r : List ℕ) → Spells ts (printed ts ++ r) r
spells_printed [] r = none
spells_printed (t ∷ ts) r =
    more (record {
      blanks = space_of t.gap;
      free = may_space t.gap;
      text = append_assoc (space_of t.gap ++ t.bytes) (printed ts) r ∙ append_assoc (space_of t.gap) t.bytes (printed ts ++ r);
    })
    (spells_printed ts r)

-- the printed form of a sheet is a text that stands for it, so it is read back
pub printed_text : (t : Tree) → GoodTree t → TextOf t (printed (text_tokens t))
printed_text t h =
    record { good = h; rest = []; spells = rw append-nil at (spells_printed (text_tokens t) []); blank = refl }

pub read_printed : (t : Tree) → GoodTree t → text (printed (text_tokens t)) ≡ got t []
read_printed t h = text_complete t (printed (text_tokens t)) (printed_text t h)
