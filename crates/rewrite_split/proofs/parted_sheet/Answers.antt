-- `rewrite_split::parted_sheet` meets its contract: the head grows, and the places are the new operators'.
use mathlib.Core.Path.{refl}
use Rattle.rewrite_split.proofs.Parting.{parted_made}
use Rattle.rewrite_split.proofs.parted_sheet.Goals as goal

pub returns : goal.returns
returns c = parted_made c.args.t c.args.i c.args.k c.requires _ _ refl c.parts.ensures
