-- The names of a list, one after the other, the whole list with its mark, and the names that are kept of one.
-- Assumes nothing.
use mathlib.Core.Path.{◌≡◌, refl, ap, ◌∙◌, sym}
use mathlib.Core.List.{List, [], ◌∷◌, ◌++◌}
use Prim.Native.Nat.{ℕ, ◌+◌, ◌≤◌}
use native.Mathlib.Omega.{arith}
use lib.Dec.{eqb}
use lib.ListN.{length}
use Rattle.base_lists.specs.Lists.{build, pad}
use Rattle.base_lists.proofs.Pad.{pad_build}
use Rattle.base_bounds.specs.Bounds.{QUEUES}
use Rattle.sheet_operator.specs.Memory.{ways}
use Rattle.text_scan.proofs.Filled.{counted_small}
use Rattle.text_lists.specs.declared.KeptNames.{KeptNames}
use Rattle.text_lists.specs.Names.{kept_of}
use Rattle.text_grammar.specs.Tokens.{printed, at_once, names_tokens}
use Rattle.text_parts.specs.Put.{listed}
use Rattle.text_parts.proofs.Listed.{listed_more, printed_append}
use Rattle.text_print.specs.Names.{name_tokens, names_text}

-- the whole list with its mark
names_tokens_lem : (qs : List ℕ) → names_tokens qs ≡ listed name_tokens qs ++ (at_once ";" ∷ [])
names_tokens_lem [] = refl
names_tokens_lem (q ∷ qs) = refl

pub names_whole : (qs : List ℕ) → printed (names_tokens qs) ≡ names_text qs ++ printed (at_once ";" ∷ [])
names_whole qs = ap printed (names_tokens_lem qs) ∙ printed_append (listed name_tokens qs) (at_once ";" ∷ [])

-- one name more
pub names_more : (i : ℕ) (f : ℕ → ℕ) → names_text (build (i + 1) f) ≡ names_text (build i f) ++ printed (name_tokens (eqb i 0) (f i))
names_more i f = ap printed (listed_more name_tokens i f) ∙ printed_append (listed name_tokens (build i f)) (name_tokens (eqb i 0) (f i))

-- the names that are kept of a list with places for all of them are the list
pub kept_few : (n : KeptNames) (l : List ℕ) → n ≡ kept_of l → length l ≤ QUEUES → n.count ≤ QUEUES
kept_few n l e h = let c = ap (λ (k : KeptNames). k.count) e ∙ counted_small QUEUES (length l) h in omega arith

pub kept_names : (n : KeptNames) (l : List ℕ) → n ≡ kept_of l → length l ≤ QUEUES → names_text l ≡ names_text (ways n.count n.queues)
kept_names n l e h =
    ap names_text
    (sym (ap (λ (k : KeptNames). ways k.count k.queues) e ∙ ap (λ (m : ℕ). ways m (pad QUEUES 0 l)) (counted_small QUEUES (length l) h)
    ∙ pad_build (length l) QUEUES 0 l refl h))
