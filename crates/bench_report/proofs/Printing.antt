-- All lines of an input, and what the report answers.
-- Assumes nothing.
use mathlib.Core.Path.{◌≡◌, ap, ◌∙◌}
use mathlib.Core.Bool.{Bool}
use mathlib.Core.List.{List, ◌++◌}
use Prim.Native.Nat.{ℕ, ◌+◌, ◌*◌, ◌≤◌, ◌<◌}
use native.Mathlib.Omega.{arith}
use lib.ListN.{length, drop}
use borrow.Author.Tests.{le-leb, lt-leb}
use Rattle.base_lists.proofs.Sets.{sets_front}
use Rattle.std.specs.Prelude.{Ok, Err, Some}
use Rattle.base_refusal.specs.declared.Reason.TheVariants.{TooShort}
use Rattle.base_refusal.specs.Refusal.{refusal}
use Rattle.base_words.specs.Text.{PutsText}
use Rattle.bench_lines.specs.Lines.{variable_lines, counts_line, LINE}
use Rattle.base_words.proofs.Putting.{puts_then}
use Rattle.base_bounds.specs.Bounds.{QUEUES, ROOM, VARIABLES}
use Rattle.sheet_operator.specs.Op.{Abstract}
use Rattle.run_machine.specs.Machine.{Ran}
use Rattle.bench_trial.specs.Trial.{Trial, ended, trial_of, at_rest, outputs_of, variables_in}
use Rattle.bench_report.specs.Print.{item_lines, printed}
use Rattle.bench_report.specs.Reports.{TEXT, report_of, Reports}

-- the counts, the items and the variables, one after the other
pub figures_printed : (a : Abstract) (x : Ran) (rest : Bool) → rest ≡ at_rest a x.machine → {s t u v : List ℕ} {b d e : ℕ} (n : ℕ) →
    n ≤ VARIABLES → PutsText (counts_line x.fired x.skipped rest) s 0 t b × (b ≤ 0 + LINE) →
    PutsText (item_lines (outputs_of a x.machine)) t b u d × (d ≤ b + LINE * ROOM * QUEUES) →
    PutsText (variable_lines 0 (variables_in a x.machine)) u d v e × (e ≤ d + LINE * n) → PutsText (printed (ended a x)) s 0 v e × (e ≤ TEXT)
unfolding printed
figures_printed a x rest h n l p q r =
    (puts_then (rw h at p.0) (puts_then q.0 r.0), omega (arith, p.1, q.1, r.1))

-- ---- the report

pub report_short : (input before : List ℕ) → length before < TEXT → Reports input before before (Err (refusal TooShort (Some 0)))
unfolding report_of
report_short input before h =
    record {
      answer = rw (lt-leb TEXT (length before) h);
      size = rw (lt-leb TEXT (length before) h);
      buffer = rw (lt-leb TEXT (length before) h);
      fits = omega arith;
    }

pub report_done : (input before after : List ℕ) (n : ℕ) (f : Trial) → TEXT ≤ length before → f ≡ trial_of input →
    PutsText (printed f) before 0 after n × (n ≤ TEXT) → Reports input before after (Ok n)
unfolding report_of
report_done input before after n f h e p =
    let g = le-leb TEXT (length before) h in
    let d = ap printed e in
    let m : n ≡ length (printed f) = omega (arith, p.0.past) in
    record {
      answer = rw g;
      size = rw g (m ∙ ap length d);
      buffer = rw g (p.0.text ∙ sets_front (printed f) before (omega (arith, p.1)) ∙ ap (λ (l : List ℕ). l ++ drop (length l) before) d);
      fits = p.1;
    }
