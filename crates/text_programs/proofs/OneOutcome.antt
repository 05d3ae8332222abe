-- A program has one outcome: two answers that meet the same contract are equal, and so are the buffers.
-- Assumes nothing.
use mathlib.Core.Path.{◌≡◌, ap, ◌∙◌, sym}
use mathlib.Core.List.{List}
use Prim.Native.Nat.{ℕ}
use Rattle.std.specs.Prelude.{Result, Ok, Err, is_err}
use Rattle.text_programs.specs.Output.{Output}
use Rattle.text_programs.specs.Sends.{sent, Sends}

-- an answer is its number and its stream
same : (r r' : Result ℕ ℕ) → sent r ≡ sent r' → is_err r ≡ is_err r' → r ≡ r'
same (Ok n) (Ok m) p q = ap Ok p
same (Ok n) (Err m) p q = cc
same (Err n) (Ok m) p q = cc
same (Err n) (Err m) p q = ap Err p

pub sends_one : (o : Output) (before after after' : List ℕ) (r r' : Result ℕ ℕ) → Sends o before after r → Sends o before after' r' →
    (r ≡ r') × (after ≡ after')
sends_one o before after after' r r' f g = (same r r' (f.size ∙ sym g.size) (f.failed ∙ sym g.failed), f.buffer ∙ sym g.buffer)
