-- The paper's words for an answer, with its sheet, tell the answers apart.
-- Assumes nothing.
use Prim.Native.Nat.{ℕ, suc}
use mathlib.Core.Path.{◌≡◌, refl, ap, ◌∙◌, sym}
use mathlib.Core.Option.{some, none}
use native.Mathlib.Omega.{arith}
use Rattle.std.specs.Prelude.{Result, Ok, Err, Some, None}
use Rattle.std.specs.Prelude as rattle
use Rattle.std.specs.Result.{result_unwrap_or}
use Rattle.base_refusal.specs.declared.Reason.{Reason}
use Rattle.base_refusal.specs.declared.Refusal.{Refusal}
use Rattle.sheet.specs.declared.Sheet.{Sheet}
use Rattle.sheet.specs.Answer.{Paper, refused, refused_at, refused_for}
use Rattle.sheet.proofs.AnswerLaws.{refusal_apart, refusal_of_paper}
use Rattle.text_form.specs.Reading.{nowhere, at_record, at_byte, TextPaper, outside, spotted}
use Rattle.text_read.specs.declared.TextRefusal.{TextRefusal}
use Rattle.text_read.specs.declared.TextRefusal.TheVariants as text
use Rattle.text_read.specs.Answer.{text_paper}

-- a sheet's answer of a text's
abbrev told_paper : TextPaper → Paper
told_paper none = none
told_paper (some (number, nowhere)) = refused number
told_paper (some (number, at_record k)) = refused_at number k
told_paper (some (number, at_byte b)) = none

told_spotted : (reason : Reason) (spot : rattle.Option ℕ) → told_paper (spotted (refused_for reason spot)) ≡ refused_for reason spot
told_spotted reason (Some k) = refl
told_spotted reason None = refl

-- one more than the byte, 0 where none is told
abbrev told_byte : TextPaper → ℕ
told_byte none = 0
told_byte (some (number, nowhere)) = 0
told_byte (some (number, at_record k)) = 0
told_byte (some (number, at_byte b)) = suc b

byte_apart : (reason : Reason) (spot : rattle.Option ℕ) (b : ℕ) → spotted (refused_for reason spot) ≡ outside b → ⊥
byte_apart reason (Some k) b e = let z : ◌≡◌ {A = ℕ} 0 (suc b) = ap told_byte e in omega arith
byte_apart reason None b e = let z : ◌≡◌ {A = ℕ} 0 (suc b) = ap told_byte e in omega arith

read_apart : (reason : Reason) (spot : rattle.Option ℕ) → spotted (refused_for reason spot) ≡ none → ⊥
read_apart reason spot e = refusal_apart reason spot (sym (ap told_paper e) ∙ told_spotted reason spot)

pub text_paper_injective : (a b : Result Sheet TextRefusal) (t : Sheet) → text_paper a ≡ text_paper b → result_unwrap_or a t ≡ result_unwrap_or b t → a ≡ b
text_paper_injective (Ok x) (Ok y) t e s = ap Ok s
text_paper_injective (Ok x) (Err (text.Sheet d)) t e s = absurd (read_apart d.reason d.spot (sym e))
text_paper_injective (Ok x) (Err (text.Outside b)) t e s = absurd (let z : ◌≡◌ {A = ℕ} 0 (suc b) = ap told_byte e in omega arith)
text_paper_injective (Err (text.Sheet c)) (Ok y) t e s = absurd (read_apart c.reason c.spot e)
text_paper_injective (Err (text.Sheet c)) (Err (text.Sheet d)) t e s =
    ap (λ (x : Refusal). Err (text.Sheet x))
    (refusal_of_paper c d (sym (told_spotted c.reason c.spot) ∙ ap told_paper e ∙ told_spotted d.reason d.spot))
text_paper_injective (Err (text.Sheet c)) (Err (text.Outside b)) t e s = absurd (byte_apart c.reason c.spot b e)
text_paper_injective (Err (text.Outside a)) (Ok y) t e s = absurd (let z : ◌≡◌ {A = ℕ} (suc a) 0 = ap told_byte e in omega arith)
text_paper_injective (Err (text.Outside a)) (Err (text.Sheet d)) t e s = absurd (byte_apart d.reason d.spot a (sym e))
text_paper_injective (Err (text.Outside a)) (Err (text.Outside b)) t e s = let d : suc a ≡ suc b = ap told_byte e in cc
