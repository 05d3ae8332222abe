use Rattle.std.proofs.Common.{ℕ, List, ap, ◌∙◌, to_z-of_z, w32, of_z}
use lib.Seq.{sets}
use Rattle.base_number.specs.Number.{bits_bytes}
use Rattle.base_number.proofs.put_int.Goals as goal

pub returns : goal.returns
returns c =
    let put : ℕ → List ℕ = λ n. sets c.args.s.now c.args.at (bits_bytes n) in
    c.put_bits.ensures ∙ ap put (c.bits.ensures ∙ ap (of_z w32) (to_z-of_z c.ranges.z))
