-- A step and its twelve bytes: reading gives back what was written, writing what was read.
use mathlib.Core.Path.{◌≡◌, refl, ap, sym}
use mathlib.Core.Bool.{true}
use mathlib.Core.List.{List, [], ◌∷◌, ◌++◌}
use Prim.Native.Nat.{ℕ, ◌+◌, ◌<◌, ◌≤◌}
use native.Mathlib.Omega.{arith}
use lib.ListN.{length, get_or, take, drop, length-drop}
use lib.Seq.{get_or-drop, take-add}
use mir.Syntax.{w32}
use mir.Val.{Fits, SFits, of_z}
use mir.Facts.{to_z-of_z, of_z-to_z, Fits-of_z}
use Rattle.base_number.specs.Number.{bits_of, bits_bytes, int_of, int_bytes}
use Rattle.base_number.proofs.Bytes.{bits_of_bytes, bytes_of_bits, bits_below}
use Rattle.sheet_step.specs.Step.{known_func, step_of, step_bytes}
use Rattle.sheet_step.specs.declared.Step.{Step}
use Rattle.sheet_step.proofs.Rows.{func_code, code_func}

pub length_step_bytes : (t : Step) → length (step_bytes t) ≡ 12
unfolding step_bytes bits_bytes
length_step_bytes t = refl

pub step_of_bytes : (t : Step) (rest : List ℕ) → SFits w32 t.low → SFits w32 t.high → step_of (step_bytes t ++ rest) ≡ t
unfolding step_of step_bytes bits_bytes
step_of_bytes t rest hl hh =
    let low = bits_of_bytes (of_z w32 t.low) (Fits-of_z hl).fits (int_bytes t.high ++ rest) in
    let high = bits_of_bytes (of_z w32 t.high) (Fits-of_z hh).fits rest in
    simp (func_code, low, high, to_z-of_z hl, to_z-of_z hh)

-- bytes from m on, where every one is below 256
part_fits : (m : ℕ) (s : List ℕ) → ((k : ℕ) → get_or s k 0 < 256) → Fits w32 (bits_of (drop m s))
part_fits m s h = record { fits = bits_below (drop m s) (λ k. rw (get_or-drop m s k 0) (h (m + k))) }

part_back : (m : ℕ) (s : List ℕ) → m + 4 ≤ length s → ((k : ℕ) → get_or s k 0 < 256) → int_bytes (int_of (drop m s)) ≡ take 4 (drop m s)
part_back m s l h =
    rw (of_z-to_z (part_fits m s h)) (bytes_of_bits (drop m s) (simp length-drop (omega arith)) (λ k. rw (get_or-drop m s k 0) (h (m + k))))

-- four elements and eight more
first_twelve : (s : List ℕ) → 12 ≤ length s →
    get_or s 0 0 ∷ get_or s 1 0 ∷ get_or s 2 0 ∷ get_or s 3 0 ∷ (take 4 (drop 4 s) ++ take 4 (drop 8 s)) ≡ take 12 s
first_twelve [] l = absurd (omega arith)
first_twelve (a ∷ []) l = absurd (omega arith)
first_twelve (a ∷ b ∷ []) l = absurd (omega arith)
first_twelve (a ∷ b ∷ c ∷ []) l = absurd (omega arith)
first_twelve (a ∷ b ∷ c ∷ d ∷ s) l = ap (λ (r : List ℕ). a ∷ b ∷ c ∷ d ∷ r) (sym (take-add 4 4 s))

pub bytes_of_step : (s : List ℕ) → 12 ≤ length s → ((k : ℕ) → get_or s k 0 < 256) → known_func (step_of s).func ≡ true → step_bytes (step_of s) ≡ take 12 s
unfolding step_of step_bytes
bytes_of_step s l h known =
    rw (code_func (get_or s 0 0) known, part_back 4 s (omega arith) h, part_back 8 s (omega arith) h) (first_twelve s l)
