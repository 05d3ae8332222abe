-- Over-long input is refused with 18 at record 0, whatever it holds.
-- Assumes nothing.
use mathlib.Core.Path.{◌≡◌, ap}
use mathlib.Core.List.{List}
use Prim.Native.Nat.{ℕ, ◌<◌}
use lib.ListN.{length}
use Rattle.base_words.specs.Text.{word, digits, natural}
use Rattle.base_bounds.specs.Bounds.{INPUT_BYTES}
use Rattle.bench_trial.proofs.Front.{input_long}
use Rattle.bench_lines.specs.Lines.{refusal_line}
use Rattle.bench_report.specs.Print.{printed, text_of}

pub long_refused : (s : List ℕ) → INPUT_BYTES < length s → text_of s ≡ word "refused 18 at record 0\n"
unfolding digits natural refusal_line printed
long_refused s l = ap printed (input_long s l)
