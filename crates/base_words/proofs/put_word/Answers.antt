-- `base_words::put_word` meets its contract: a part that is copied over is one run of stores.
-- Assumes nothing.
use Rattle.std.proofs.Common.{◌≡◌, ◌+◌, ◌-◌, length, refl, ap, ◌∙◌, arith}
use lib.Seq.{sets}
use Rattle.base_lists.proofs.Sets.{put_part}
use Rattle.base_words.proofs.put_word.Goals as goal

pub returns : goal.returns
returns c =
    let a = c.args in
    let e = c.copy_from_slice.ensures.after in
    let n : length c.copy_from_slice.new.self ≡ length a.w.now = ap length e in
    record {
      text = put_part a.at (a.at + length a.w.now - a.at) a.s.now c.copy_from_slice.new.self (omega arith) (omega arith)
          ∙ ap (sets a.s.now a.at) e;
      past = refl;
    }
