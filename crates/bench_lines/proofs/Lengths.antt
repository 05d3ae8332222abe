-- No line is longer than LINE bytes: of an item and a variable of 32-bit numbers, of counts and refusals of small numbers.
-- Assumes nothing.
use mathlib.Core.Path.{◌≡◌}
use mathlib.Core.Bool.{Bool, true, false}
use mathlib.Core.List.{List, [], ◌∷◌, ◌++◌}
use Prim.Native.Nat.{ℕ, suc, ◌+◌, ◌*◌, ◌^◌, ◌≤◌, ◌<◌}
use native.Mathlib.Omega.{arith}
use lib.ListN.{length, get_or, length-append}
use lib.IntN.{ℤ, pos}
use lib.Signed.{mag}
use Rattle.base_lists.specs.Lists.{chain}
use Rattle.base_words.specs.Text.{word, natural}
use Rattle.base_words.proofs.Digits.{length_natural, length_integer}
use Rattle.bench_lines.specs.Lines.{spaced, item_line, variable_line, variable_lines, refusal_line, answer, counts_line, SPACED, LINE}

-- a number of at most five digits
natural_short : (n : ℕ) → n < 100000 → length (natural n) ≤ 5
natural_short n h = length_natural 4 n h

spaced_short : (z : ℤ) → mag z < 2 ^ 31 → length (spaced z) ≤ SPACED
spaced_short z h = omega (arith, length_integer z h)

fields_short : (zs : List ℤ) → ((k : ℕ) → mag (get_or zs k (pos 0)) < 2 ^ 31) → length (chain spaced zs) ≤ SPACED * length zs
fields_short [] h = omega arith
fields_short (z ∷ zs) h =
    omega (arith, length-append (spaced z) (chain spaced zs), spaced_short z (h 0), fields_short zs (λ k. h (suc k)))

pub item_short : (q : ℕ) (zs : List ℤ) → q < 100000 → length zs ≡ 4 → ((k : ℕ) → mag (get_or zs k (pos 0)) < 2 ^ 31) →
    length (item_line q zs) ≤ LINE
unfolding item_line
item_short q zs l e h =
    omega (
      arith,
      natural_short q l,
      fields_short zs h,
      length-append (natural q) (chain spaced zs ++ word "\n"),
      length-append
          (chain spaced zs) (word "\n"),
    )

variable_short : (v : ℕ) (z : ℤ) → v < 100000 → mag z < 2 ^ 31 → length (variable_line v z) ≤ LINE
unfolding variable_line
variable_short v z l h =
    omega (arith, natural_short v l, spaced_short z h, length-append (natural v) (spaced z ++ word "\n"), length-append (spaced z) (word "\n"))

pub variables_short : (v : ℕ) (zs : List ℤ) → v + length zs < 100000 → ((k : ℕ) → mag (get_or zs k (pos 0)) < 2 ^ 31) →
    length (variable_lines v zs) ≤ LINE * length zs
variables_short v [] l h = omega arith
variables_short v (z ∷ zs) l h =
    omega (
      arith,
      length-append (variable_line v z) (variable_lines (suc v) zs),
      variable_short v z (omega arith) (h 0),
      variables_short (suc v) zs (omega arith) (λ k. h (suc k)),
    )

pub refusal_short : (number spot : ℕ) → number < 100000 → spot < 100000 → length (refusal_line number spot) ≤ LINE
unfolding refusal_line
refusal_short number spot a b =
    omega (
      arith,
      natural_short number a,
      natural_short spot b,
      length-append (natural number)
          (word " at record " ++ (natural spot ++ word "\n")),
      length-append (natural spot) (word "\n"),
    )

answer_short : (b : Bool) → length (answer b) ≤ 3
answer_short true = omega arith
answer_short false = omega arith

pub counts_short : (fired skipped : ℕ) (rest : Bool) → fired < 100000 → skipped < 100000 → length (counts_line fired skipped rest) ≤ LINE
unfolding counts_line
counts_short fired skipped rest a b =
    omega (
      arith,
      natural_short fired a,
      natural_short skipped b,
      answer_short rest,
      length-append (natural fired) (word " skipped " ++ (natural skipped ++ (word " rest " ++ (answer rest ++ word "\n")))),
      length-append (natural skipped) (word " rest " ++ (answer rest ++ word "\n")),
      length-append (answer rest) (word "\n"),
    )
