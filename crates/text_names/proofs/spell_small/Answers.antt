use Rattle.text_names.proofs.Small.{one_digit, two_digits}
use Rattle.text_names.proofs.spell_small.Goals as goal

pub returns-then-n-lt10 : goal.returns-then-n-lt10
returns-then-n-lt10 c = rw (one_digit _ c.if-n-lt10.true) c.spell.ensures

pub returns : goal.returns
returns c = rw (two_digits c.args.n c.if-n-lt10.false c.requires.1) c.spell-2.ensures
