-- What spells a signed number or a step is read as that number or that step.
-- Assumes nothing.
use Prim.Native.Nat.{ℕ, zero, suc, ◌+◌, ◌-◌, ◌<◌, ◌≤◌}
use mathlib.Core.Path.{◌≡◌, refl, ap, ◌∙◌, sym}
use mathlib.Core.Bool.{Bool, true, false, cond}
use mathlib.Core.List.{List, [], ◌∷◌, ◌++◌}
use native.Mathlib.Omega.{arith}
use lib.Dec.{eqb, leb}
use lib.IntN.{ℤ, pos, negsuc}
use mir.Syntax.{w32}
use mir.Val.{to_z, of_z, SFits}
use mir.Facts.{to_z-of_z}
use borrow.Author.Tests.{leb-true, ne_eqb}
use Rattle.base_lists.specs.Lists.{member, all}
use Rattle.base_lists.proofs.Tests.{both, or_right}
use Rattle.base_words.specs.Text.{word, natural, integer, digit}
use Rattle.text_scan.specs.Reader.{Res, got, Reader, bind, ◌>>=◌, is_blank, is_digit, digits}
use Rattle.text_scan.proofs.ExactBytes.{here_in, no_blank_digit}
use Rattle.text_grammar.specs.Readers.{decimal, number, negative, step, on_variable}
use Rattle.text_grammar.specs.Tokens.{Gap, tight, Token, Spells, more, number_as, variable_as, byte_as, at_once, step_tokens, Wide, GoodStep, good_keep, good_add, good_copy, good_count, good_stamp, step_with}
use Rattle.sheet_step.specs.declared.Func.{Func}
use Rattle.sheet_step.specs.declared.Func.TheVariants.{Keep, Add, Count, Stamp}
use Rattle.sheet_step.specs.declared.Step.{Step}
use Rattle.text_grammar.proofs.CompleteOperators.{Runs, runs_done, runs_here, runs_spell, runs_word, sign_first, token_reads, runs_sign, decimal_closed, runs_as, runs_variable, begins, runs_byte, digit_in}

-- ---- signed numbers

digit_member : (c : ℕ) → is_digit c ≡ true → member c (word "0123456789") ≡ true
digit_member c h =
    let l = leb-true 48 c (both (leb 48 c) _ h).0 in
    let u = leb-true c 57 (both (leb 48 c) _ h).1 in
    let e : digit (c - 48) ≡ c = omega arith in
    rw e at (digit_in (c - 48) (omega arith))

nonzero_in : (n : ℕ) → n < 9 → member (49 + n) (word "123456789") ≡ true
nonzero_in zero h = refl
nonzero_in (suc zero) h = refl
nonzero_in (suc (suc zero)) h = refl
nonzero_in (suc (suc (suc zero))) h = refl
nonzero_in (suc (suc (suc (suc zero)))) h = refl
nonzero_in (suc (suc (suc (suc (suc zero))))) h = refl
nonzero_in (suc (suc (suc (suc (suc (suc zero)))))) h = refl
nonzero_in (suc (suc (suc (suc (suc (suc (suc zero))))))) h = refl
nonzero_in (suc (suc (suc (suc (suc (suc (suc (suc zero)))))))) h = refl
nonzero_in (suc (suc (suc (suc (suc (suc (suc (suc (suc n))))))))) h = absurd (omega arith)

number_pos : (b : List ℕ) (n : ℕ) (y : List ℕ) → all is_blank b ≡ true → number (b ++ (natural n ++ y)) ≡ decimal 2147483647 (natural n ++ y)
number_pos b n y h =
    let e = begins n in
    let c = e.first in
    let l = leb-true 48 c (both (leb 48 c) _ e.digit).0 in
    rw e.text
    (ap (λ (x : Res ℕ). bind x (λ (d : ℕ). cond (eqb d 45) negative (digits 2147483647 (d - 48))))
    (sign_first (word "-0123456789") b c (e.rest ++ y) h (no_blank_digit c e.digit) (or_right (eqb c 45) _ (digit_member c e.digit)))
    ∙ ap (λ (x : Bool). cond x negative (digits 2147483647 (c - 48)) (e.rest ++ y)) (ne_eqb c 45 (λ i. omega arith))
    ∙ sym (ap (λ (x : Res ℕ). bind x (λ (d : ℕ). digits 2147483647 (d - 48))) (here_in c (word "0123456789") (e.rest ++ y) (digit_member c e.digit))))

nonzero_member : (c : ℕ) → 49 ≤ c → is_digit c ≡ true → member c (word "123456789") ≡ true
nonzero_member c g h =
    let u = leb-true c 57 (both (leb 48 c) _ h).1 in
    let e : 49 + (c - 49) ≡ c = omega arith in
    rw e at (nonzero_in (c - 49) (omega arith))

abbrev pub minus : ℕ → Reader ℕ
minus n = got (4294967295 - (n - 1))

number_neg : (b : List ℕ) (n : ℕ) (y : List ℕ) → 1 ≤ n → all is_blank b ≡ true → number (b ++ (45 ∷ (natural n ++ y))) ≡ bind (decimal 2147483648 (natural n ++ y)) minus
number_neg b n y o h =
    let e = begins n in
    let c = e.first in
    ap (λ (x : Res ℕ). bind x (λ (d : ℕ). cond (eqb d 45) negative (digits 2147483647 (d - 48))))
    (sign_first (word "-0123456789") b 45 (natural n ++ y) h refl refl)
    ∙ rw e.text
    (ap (λ (x : Res ℕ). bind x (λ (d : ℕ). digits 2147483648 (d - 48) >>= minus))
    (here_in c (word "123456789") (e.rest ++ y) (nonzero_member c (e.least o) e.digit))
    ∙ sym (ap (λ (x : Res ℕ). bind (bind x (λ (d : ℕ). digits 2147483648 (d - 48))) minus)
    (here_in c (word "0123456789") (e.rest ++ y) (digit_member c e.digit))))

-- the bits that a signed number is read as
abbrev pub bits_of : ℤ → ℕ
bits_of (pos n) = n
bits_of (negsuc k) = 4294967295 - (suc k - 1)

number_at : (h : Gap) (m : ℕ) (v : List ℕ) (ts : List Token) (z : ℤ) → Wide z → is_digit m ≡ false → (b : List ℕ) → all is_blank b ≡ true → (y r : List ℕ) →
    Spells (record { gap = h; bytes = m ∷ v } ∷ ts) y r → number (b ++ (integer z ++ y)) ≡ got (bits_of z) y
unfolding integer
number_at h m v ts (pos n) l e b f y r (more {m = x} p q) =
    number_pos b n y f ∙ decimal_closed 2147483647 n h m v y x (omega arith) e p
number_at h m v ts (negsuc k) l e b f y r (more {m = x} p q) =
    number_neg b (suc k) y (omega arith) f ∙ ap (λ (x : Res ℕ). bind x minus) (decimal_closed 2147483648 (suc k) h m v y x (omega arith) e p)

module _ {A : Type 0} {h : Gap} {m : ℕ} {v : List ℕ} {ts : List Token} (K : ℕ → Reader A) {a : A} where
  pub runs_number : (z : ℤ) → Wide z → is_digit m ≡ false → Runs [] (record { gap = h; bytes = m ∷ v } ∷ ts) (K (bits_of z)) a →
      Runs [] (number_as z ∷ record { gap = h; bytes = m ∷ v } ∷ ts) (number >>= K) a
  runs_number z l e f =
      record {
        reads = token_reads (number_as z) (record { gap = h; bytes = m ∷ v } ∷ ts) (number >>= K) a
            (λ s y r p q. ap (λ (x : Res ℕ). bind x K) (ap number p.text ∙ number_at h m v ts z l e p.blanks p.free y r q) ∙ f.reads y r q);
      }

-- ---- steps

bits_are : (z : ℤ) → Wide z → bits_of z ≡ of_z w32 z
bits_are (pos n) l = refl
bits_are (negsuc k) l = omega arith

pub bits_back : (z : ℤ) → Wide z → to_z w32 (bits_of z) ≡ z
bits_back z l = ap (to_z w32) (bits_are z l) ∙ to_z-of_z (wide z l)
  where
    wide : (z : ℤ) → Wide z → SFits w32 z
    wide z l = record { sfits = l }

runs_on : (f : Func) (v p : ℕ) → v ≤ 15 → p ≤ 255 →
    Runs [] (at_once "[" ∷ variable_as tight v ∷ at_once "," ∷ byte_as tight p ∷ at_once "]" ∷ []) (on_variable f) (step_with f v p 0 (pos 0) (pos 0))
runs_on f v p hv hp =
    runs_sign _ _ refl (runs_sign _ _ refl (runs_variable _ hv refl (runs_sign _ _ refl (runs_byte _ hp refl (runs_sign _ _ refl runs_done)))))

pub runs_step : {t : Step} → GoodStep t → Runs [] (step_tokens t.func t) step t
runs_step (good_keep {p} {low} {high} hp hl hh) =
    runs_as (step_with Keep 255 p 0 low high) (ap (λ (z : ℤ). step_with Keep 255 p 0 z (to_z w32 (bits_of high))) (bits_back low hl) ∙ ap (step_with Keep 255 p 0 low) (bits_back high hh))
    (runs_sign _ _ refl (runs_word (word "eep") (runs_sign _ _ refl (runs_byte _ hp refl (runs_sign _ _ refl (runs_number _ low hl refl (runs_sign _ _ refl
    (runs_number _ high hh refl (runs_sign _ _ refl runs_done)))))))))
runs_step (good_add {p} {low} hp hl) =
    runs_as (step_with Add 255 p 0 low (pos 0)) (ap (λ (z : ℤ). step_with Add 255 p 0 z (pos 0)) (bits_back low hl))
    (runs_sign _ _ refl (runs_word (word "dd") (runs_sign _ _ refl (runs_byte _ hp refl (runs_sign _ _ refl (runs_number _ low hl refl (runs_sign _ _ refl runs_done)))))))
runs_step (good_copy hp hr) =
    runs_sign _ _ refl (runs_spell (word "o") {w = word "py"} (runs_here _ _ refl (runs_word (word "y") (runs_sign _ _ refl (runs_byte _ hp refl (runs_sign _ _ refl
    (runs_byte _ hr refl (runs_sign _ _ refl runs_done))))))))
runs_step (good_count {v} {p} hv hp) =
    runs_sign _ _ refl (runs_spell (word "o") {w = word "unt"} (runs_here _ _ refl (runs_word (word "nt") (runs_on Count v p hv hp))))
runs_step (good_stamp {v} {p} hv hp) =
    runs_sign _ _ refl (runs_word (word "tamp") (runs_on Stamp v p hv hp))
