-- An accepted sheet's operators can fire, and one that reads a queue can fire from it in numbers that pass 8.
-- Assumes nothing.
use mathlib.Core.Path.{◌≡◌, refl, sym, ◌∙◌, subst}
use mathlib.Core.Bool.{true}
use Prim.Native.Nat.{ℕ, ◌<◌}
use native.Mathlib.Omega.{arith}
use lib.Dec.{ltb}
use lib.IntN.{ℤ}
use mathlib.Core.List.{List}
use borrow.Author.Tests.{ltb-true}
use Rattle.base_lists.specs.Lists.{member}
use Rattle.base_lists.proofs.Tests.{all_build, all_member}
use Rattle.base_lists.proofs.Members.{all_below}
use Rattle.sheet_operator.specs.Op.{Op, line, latest, double, deal, gather, reads, defines, names}
use Rattle.sheet_operator.specs.Memory.{view}
use Rattle.sheet_judge.specs.Judge.{known, seven}
use Rattle.sheet_judge.proofs.JudgedLaws.{judged_seven}
use Rattle.base_bounds.specs.Bounds.{VARIABLES, QUEUES}
use Rattle.sheet.specs.declared.Sheet.{Sheet}
use Rattle.sheet.specs.Answer.{accepted}
use Rattle.sheet.specs.Sheet.{op_at, view_to, view_sheet}
use Rattle.sheet.specs.Check.{check_of}
use Rattle.sheet.proofs.Accepted.{Accepted, accepted_facts}
use Rattle.sheet.proofs.Placed.{ops_many, ops_at}
use Rattle.run_effect.specs.Able.{Able}
use Rattle.run_effect.specs.Effect.{cursor_good}
use Rattle.run_effect.proofs.AbleLaws.{sound, able_of}
use Rattle.run_machine.specs.declared.State.{State}
use Rattle.run_machine.specs.Working.{Stands, CanFire}
use Rattle.run_machine.proofs.Good.{tested_of_good}
use Rattle.run_machine.proofs.Sound.{SoundOp, sound_of_accepted}

-- rule 7 of a sheet is what a firing asks of the places of its steps and of its field
seven_sound : (o : Op) → seven o ≡ sound o
unfolding seven
seven_sound (line p q ss) = refl
seven_sound (latest p v f) = refl
seven_sound (double p q r) = refl
seven_sound (deal c p qs) = refl
seven_sound (gather c q ps) = refl

pub sound_at : (t : Sheet) → check_of t ≡ accepted → (i : ℕ) → i < t.count → SoundOp t.queues t.variables (view (op_at t i))
sound_at t h i l =
    subst (λ (o : Op). SoundOp t.queues t.variables o) (ops_at t i l) ((sound_of_accepted t h).each i (omega (arith, ops_many t)))

pub able_of_accepted : (t : Sheet) → check_of t ≡ accepted → (i : ℕ) → i < t.count → Able (op_at t i)
able_of_accepted t h i l =
    let f : Accepted t = accepted_facts t h in
    let o = view (op_at t i) in
    able_of (op_at t i) (f.shaped i l)
    (all_below t.variables VARIABLES (names o) (sound_of_accepted t h).variables (sound_at t h i l).named)
    (sym (seven_sound o) ∙ judged_seven t.queues t.variables (known (view_to t i)) o (f.judged i l))

pub can_fire_of_stands : (t : Sheet) (st : State) (s : List ℤ) (q i : ℕ) → Stands t st s → i < t.count → member q (reads (view (op_at t i))) ≡ true →
    CanFire (op_at t i) q st s
can_fire_of_stands t st s q i h l m =
    let o = view (op_at t i) in
    let u = sound_at t h.sheet i l in
    let n = (sound_of_accepted t h.sheet).queues in
    let e = tested_of_good (view_sheet t) st s h.numbers in
    record {
      able = able_of_accepted t h.sheet i l;
      cursor = all_build (λ (p : Op). cursor_good p st.vars) t.count (λ (k : ℕ). view (op_at t k)) e.cursors i l;
      queue = omega (arith, n, ltb-true q t.queues (all_member (λ (p : ℕ). ltb p t.queues) (reads o) u.ins q m));
      below = all_below t.queues QUEUES (defines o) n u.outs;
      apart = u.apart;
      size = e.size;
      quiet = e.quiet;
    }
