-- `run_reader::readers` meets its contract: the loop keeps that the table is the one of the operators from i on.
use mathlib.Core.Path.{◌≡◌, sym, ap, ap₂, ◌∙◌}
use mathlib.Core.Bool.{true}
use mathlib.Core.List.{List}
use Prim.Native.Nat.{ℕ, ◌+◌, ◌-◌, ◌≤◌, ◌<◌}
use native.Mathlib.Omega.{arith}
use lib.Dec.{ltb}
use Rattle.base_lists.specs.Lists.{all}
use Rattle.base_lists.proofs.Members.{all_below}
use Rattle.sheet_operator.specs.Op.{Op, double, reads}
use Rattle.sheet_operator.specs.Memory.{view, Ready}
use Rattle.base_bounds.specs.Bounds.{OPERATORS, QUEUES}
use Rattle.sheet.specs.declared.Sheet.{Sheet}
use Rattle.sheet.specs.Answer.{accepted}
use Rattle.sheet.specs.Sheet.{op_at, view_sheet}
use Rattle.sheet.specs.Check.{check_of}
use Rattle.sheet.proofs.Accepted.{ranges_of_accepted}
use Rattle.sheet.proofs.Placed.{ops_many, ops_at}
use Rattle.run_machine.specs.Readers.{readers_with}
use Rattle.run_machine.proofs.AbleOf.{sound_at, able_of_accepted}
use Rattle.run_machine.proofs.ReaderLaws.{readers_start, readers_turn}
use Rattle.run_reader.proofs.readers.Invariants.{from}
use Rattle.run_reader.proofs.readers.Goals as goal
use Rattle.run_reader.proofs.readers.Goals.{Start}

few : (c : Start) → c.args.t.count ≤ OPERATORS
few c = (ranges_of_accepted c.args.t c.requires).count

turn : (t : Sheet) (i : ℕ) (r : List ℕ) → i < t.count → r ≡ from t (i + 1) → readers_with r (reads (view (op_at t i))) i ≡ from t i
turn t i r h e =
    ap₂ (λ (l : List ℕ) (o : Op). readers_with l (reads o) i) e (sym (ops_at t i h))
    ∙ readers_turn (view_sheet t).ops i (double 0 0 0) (omega (arith, ops_many t))

asked : (t : Sheet) → check_of t ≡ accepted → (i : ℕ) → i < t.count →
    Ready (op_at t i) × (all (λ (q : ℕ). ltb q QUEUES) (reads (view (op_at t i))) ≡ true)
asked t h i l =
    ((able_of_accepted t h i l).ready, all_below t.queues QUEUES (reads (view (op_at t i))) (ranges_of_accepted t h).queues (sound_at t h i l).ins)

pub loop-i-init : goal.loop-i-init
loop-i-init c = (omega arith, sym (readers_start (view_sheet c.args.t).ops c.args.t.count (omega (arith, ops_many c.args.t))))

pub bounds-t-i : goal.bounds-t-i
bounds-t-i c = omega (arith, few (goal.at.bounds-t-i c).Start)

pub with_reader-next-requires : goal.with_reader-next-requires
with_reader-next-requires c =
    asked c.args.t c.requires (c.loop-i.i - 1) (omega arith)

pub loop-i-preserved : goal.loop-i-preserved
loop-i-preserved c =
    let t = c.args.t in
    let n : c.loop-i.i ≡ c.loop-i.i - 1 + 1 = omega arith in
    (omega arith, c.with_reader-next.ensures ∙ turn t (c.loop-i.i - 1) c.loop-i.r (omega arith) (c.loop-i.invariant.1 ∙ ap (from t) n))
