-- Printing has one outcome: two that meet the same contract are equal, and so are the buffers.
-- Assumes nothing.
use mathlib.Core.Path.{◌≡◌}
use mathlib.Core.List.{List}
use Prim.Native.Nat.{ℕ}
use Rattle.sheet.specs.declared.Sheet.{Sheet}
use Rattle.std.specs.Prelude.{Result}
use Rattle.base_refusal.specs.declared.Refusal.{Refusal}
use Rattle.codec_write.proofs.OneOutcome.{wrote_one}
use Rattle.text_print.specs.Print.{print_of, Prints}

pub print_one : (t : Sheet) (l m m' : List ℕ) (r r' : Result ℕ Refusal) → Prints t l m r → Prints t l m' r' → (r ≡ r') × (m ≡ m')
print_one t l = wrote_one (print_of t l)
