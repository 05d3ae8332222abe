use Rattle.std.proofs.Common.{ap, ◌∙◌, to_z-of_z, w32, to_z}
use borrow.Author.Rules.{sfits_of}
use Rattle.base_number.proofs.int_at.Goals as goal

pub returns : goal.returns
returns c = to_z-of_z {w = w32} (sfits_of c.signed.type_inv) ∙ c.signed.ensures ∙ ap (to_z w32) c.bits_at.ensures
