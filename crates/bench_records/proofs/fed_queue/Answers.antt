-- `bench_records::fed_queue` meets its contract: body length 1, then 9, then 12, else the queue.
-- Assumes nothing.
use mathlib.Core.Path.{sym, ap, ◌∙◌}
use mathlib.Core.Bool.{Bool, cond}
use native.Mathlib.Omega.{arith}
use lib.ListN.{drop}
use lib.Seq.{get_or-drop}
use Rattle.sheet_format.specs.Record.{HEADER}
use Rattle.bench_records.proofs.RecordLaws.{feed_room}
use Rattle.bench_records.proofs.Looking.{number_body, number_queue, number_room}
use Rattle.bench_records.proofs.fed_queue.Goals as goal

pub short_at-requires : goal.short_at-requires
short_at-requires c =
    omega (arith, (feed_room c.args.s.now c.args.at c.requires.1).0)

pub returns-then-short_at-ne-FEED_BODY : goal.returns-then-short_at-ne-FEED_BODY
returns-then-short_at-ne-FEED_BODY c =
    record {
      number =
          sym (number_body c.args.inputs c.args.counts (drop c.args.at c.args.s.now) (λ e. c.if-short_at-ne-FEED_BODY.true (c.short_at.ensures.0 ∙ e)));
      queue = tt;
    }

pub bounds-s-at : goal.bounds-s-at
bounds-s-at c =
    omega (arith, (feed_room c.args.s.now c.args.at c.requires.1).1, c.short_at.ensures.0, c.if-short_at-ne-FEED_BODY.false)

pub returns-then-inputs-q : goal.returns-then-inputs-q
returns-then-inputs-q c =
    record {
      number =
          sym (number_queue c.args.inputs c.args.counts (drop c.args.at c.args.s.now)
          (sym c.short_at.ensures.0 ∙ c.if-short_at-ne-FEED_BODY.false) _ (sym (get_or-drop c.args.at c.args.s.now HEADER 0)) c.if-inputs-q.true);
      queue = tt;
    }

pub returns-then-is_full : goal.returns-then-is_full
returns-then-is_full c =
    record {
      number =
          sym (number_room c.args.inputs c.args.counts (drop c.args.at c.args.s.now)
          (sym c.short_at.ensures.0 ∙ c.if-short_at-ne-FEED_BODY.false) _ (sym (get_or-drop c.args.at c.args.s.now HEADER 0)) c.if-inputs-q.false
          c.is_full.result c.is_full.ensures ∙ ap (λ (b : Bool). cond b 12 0) c.if-is_full.true);
      queue = tt;
    }

pub returns : goal.returns
returns c =
    let q = sym (get_or-drop c.args.at c.args.s.now HEADER 0) in
    record {
      number =
          sym (number_room c.args.inputs c.args.counts (drop c.args.at c.args.s.now)
          (sym c.short_at.ensures.0 ∙ c.if-short_at-ne-FEED_BODY.false) _ q c.if-inputs-q.false
          c.is_full.result c.is_full.ensures ∙ ap (λ (b : Bool). cond b 12 0) c.if-is_full.false);
      queue = q;
    }
