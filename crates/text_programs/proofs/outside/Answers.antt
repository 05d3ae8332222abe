-- `text_programs::outside` meets its contract: the line is at the front.
-- Assumes nothing.
use mathlib.Core.Path.{refl}
use native.Mathlib.Omega.{arith}
use Rattle.std.specs.Prelude.{Err}
use Rattle.text_places.specs.Places.{place_of, outside_line}
use Rattle.text_programs.specs.Output.{err}
use Rattle.text_programs.proofs.Sending.{sends_puts}
use Rattle.text_programs.proofs.outside.Goals as goal

pub returns : goal.returns
returns c =
    let p = c.put_outside.ensures in
    sends_puts (err (outside_line 19 c.args.at (place_of c.args.input.now c.args.at))) (Err _) refl p.puts (omega (arith, p.most)) c.requires.0
