-- A body that was found lies in the buffer.
use Rattle.std.specs.Prelude.{ℕ, ◌≤◌}
use Rattle.replay_stream.specs.declared.Found.{Found}
use Rattle.replay_stream.specs.declared.Found.TheVariants.{Call, Cut, End}

-- from its begin to its end, in a buffer of that length
abbrev pub Bodied : Found → ℕ → Type 0
Bodied (Call call at end) size = (at ≤ end) × (end ≤ size)
Bodied Cut size = Unit
Bodied End size = Unit
