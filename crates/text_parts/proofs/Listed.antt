-- The tokens of a list whose first element is spelt in its own way: one element more.
-- Assumes nothing.
use mathlib.Core.Path.{◌≡◌, refl, ap, ◌∙◌, sym}
use mathlib.Core.Bool.{Bool, true, false}
use mathlib.Core.List.{List, [], ◌∷◌, ◌++◌, append_assoc, append-nil}
use Prim.Native.Nat.{ℕ, zero, suc, ◌+◌}
use lib.Dec.{eqb, eqb-suc-zero}
use Rattle.base_lists.specs.Lists.{build, chain}
use Rattle.base_lists.proofs.Build.{build_snoc}
use Rattle.base_lists.proofs.Chains.{chain_append}
use Rattle.sheet_step.specs.declared.Step.{Step}
use Rattle.text_grammar.specs.Tokens.{Token, printed, space_of, spaced, step_tokens, steps_tokens, line_tokens, ways_tokens}
use Rattle.text_parts.specs.Put.{listed, bar_tokens, way_tokens_at}

abbrev pub is_nil : {A : Type 0} → List A → Bool
is_nil [] = true
is_nil (x ∷ xs) = false

module _ {A B : Type 0} (f : Bool → A → List B) where
  pub listed_snoc : (xs : List A) (x : A) → listed f (xs ++ (x ∷ [])) ≡ listed f xs ++ f (is_nil xs) x
  listed_snoc [] x = append-nil (f true x)
  listed_snoc (y ∷ xs) x =
      ap (λ (l : List B). f true y ++ l) (chain_append (f false) xs (x ∷ []) ∙ ap (λ (l : List B). chain (f false) xs ++ l) (append-nil (f false x)))
      ∙ sym (append_assoc (f true y) (chain (f false) xs) (f false x))

  nil_build : (i : ℕ) (g : ℕ → A) → is_nil (build i g) ≡ eqb i 0
  nil_build zero g = refl
  nil_build (suc i) g = sym (eqb-suc-zero i)

  pub listed_more : (i : ℕ) (g : ℕ → A) → listed f (build (i + 1) g) ≡ listed f (build i g) ++ f (eqb i 0) (g i)
  listed_more i g =
      ap (listed f) (build_snoc i g) ∙ listed_snoc (build i g) (g i)
      ∙ ap (λ (b : Bool). listed f (build i g) ++ f b (g i)) (nil_build i g)

pub printed_append : (ts us : List Token) → printed (ts ++ us) ≡ printed ts ++ printed us
printed_append = chain_append (λ (t : Token). space_of t.gap ++ t.bytes)

pub printed_more : {A : Type 0} (f : Bool → A → List Token) (tokens : List A → List Token) → ((xs : List A) → tokens xs ≡ listed f xs) →
    (i : ℕ) (g : ℕ → A) → printed (tokens (build (i + 1) g)) ≡ printed (tokens (build i g)) ++ printed (f (eqb i 0) (g i))
printed_more f tokens e i g =
    ap printed (e (build (i + 1) g) ∙ listed_more f i g ∙ ap (λ (l : List Token). l ++ f (eqb i 0) (g i)) (sym (e (build i g))))
    ∙ printed_append (tokens (build i g)) (f (eqb i 0) (g i))

-- a line's steps and an operator's ways are such lists
steps_listed : (ts : List Step) → steps_tokens ts ≡ chain (bar_tokens false) ts
steps_listed [] = refl
steps_listed (t ∷ ts) = ap (λ (l : List Token). spaced "|" ∷ (step_tokens t.func t ++ l)) (steps_listed ts)

line_listed : (ts : List Step) → line_tokens ts ≡ listed bar_tokens ts
line_listed [] = refl
line_listed (t ∷ ts) = ap (λ (l : List Token). step_tokens t.func t ++ l) (steps_listed ts)

ways_listed : (qs : List ℕ) → ways_tokens qs ≡ listed way_tokens_at qs
ways_listed [] = refl
ways_listed (q ∷ qs) = refl

pub line_more : (i : ℕ) (g : ℕ → Step) → printed (line_tokens (build (i + 1) g)) ≡ printed (line_tokens (build i g)) ++ printed (bar_tokens (eqb i 0) (g i))
line_more = printed_more bar_tokens line_tokens line_listed

pub ways_more : (i : ℕ) (g : ℕ → ℕ) → printed (ways_tokens (build (i + 1) g)) ≡ printed (ways_tokens (build i g)) ++ printed (way_tokens_at (eqb i 0) (g i))
ways_more = printed_more way_tokens_at ways_tokens ways_listed
