-- Where reading stands in a text, and what a reader makes of it.
use Rattle.std.specs.Prelude.{ℕ, ◌≤◌, ◌≡◌, cond, List, [], ◌∷◌, length, drop, Result, Ok, Err}
use Rattle.text_scan.specs.declared.Read.{Read}
use Rattle.text_scan.specs.declared.Lost.{Lost}
use Rattle.text_scan.specs.Reader.{Res, got, lost, Reader, is_blank}

-- the place behind what was read, or where reading is lost
abbrev pub place : {A : Type 0} → Result (Read A) Lost → ℕ
place (Ok r) = r.at
place (Err e) = e.at

-- what was read, as `view` sees it, and what is left of the text
abbrev pub stands : {A B : Type 0} → (A → B) → List ℕ → Result (Read A) Lost → Res B
stands view s (Ok r) = got (view r.value) (drop r.at s)
stands view s (Err e) = lost (drop e.at s)

-- a value is seen as it is
abbrev pub same : {A : Type 0} → A → A
same x = x

-- a function reads from a place on what a reader reads there
pub record Reads {A B : Type 0} (view : A → B) (s : List ℕ) (at : ℕ) (P : Reader B) (r : Result (Read A) Lost) : Type 0 where
  pub within : place r ≤ length s
  pub reads : stands view s r ≡ P (drop at s)

abbrev pub after_blanks : List ℕ → List ℕ
after_blanks [] = []
after_blanks (b ∷ s) = cond (is_blank b) (after_blanks s) (b ∷ s)
