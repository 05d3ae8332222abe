-- What reading a text answers, in the paper's words.
use Rattle.std.specs.Prelude.{Result, Ok, Err}
use Rattle.std.proofs.Math.Option.{none}
use Rattle.sheet.specs.declared.Sheet.{Sheet}
use Rattle.sheet.specs.Answer.{refused_for}
use Rattle.text_form.specs.Reading.{TextPaper, outside, spotted}
use Rattle.text_read.specs.declared.TextRefusal.{TextRefusal}
use Rattle.text_read.specs.declared.TextRefusal.TheVariants as text

abbrev pub text_paper : Result Sheet TextRefusal → TextPaper
text_paper (Ok t) = none
text_paper (Err (text.Sheet e)) = spotted (refused_for e.reason e.spot)
text_paper (Err (text.Outside at)) = outside at
