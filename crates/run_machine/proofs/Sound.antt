-- What a sheet has to satisfy so that the calls keep a machine good; every accepted sheet does.
-- Assumes nothing.
use mathlib.Core.Path.{◌≡◌, sym, ap, ◌∙◌, subst}
use mathlib.Core.Bool.{true, false}
use Prim.Native.Nat.{ℕ, ◌≤◌, ◌<◌}
use native.Mathlib.Omega.{arith}
use lib.Dec.{ltb}
use lib.ListN.{length, get_or}
use Rattle.base_lists.specs.Lists.{all, member, fresh}
use Rattle.base_lists.proofs.Build.{never}
use Rattle.base_lists.proofs.Fresh.{fresh_fewer}
use Rattle.sheet_operator.specs.Op.{Op, double, Abstract, reads, defines, names, cursors}
use Rattle.sheet_operator.specs.Memory.{view}
use Rattle.sheet_operator.proofs.ViewLaws.{Small, small_view}
use Rattle.sheet_judge.specs.Judge.{known}
use Rattle.sheet_judge.proofs.JudgedLaws.{judged_four, judged_five, judged_six, four_reads, four_defines, six_names}
use Rattle.base_bounds.specs.Bounds.{VARIABLES, QUEUES}
use Rattle.sheet_format.proofs.Heads.{ranges_of_good}
use Rattle.sheet.specs.declared.Sheet.{Sheet}
use Rattle.sheet.specs.Answer.{accepted}
use Rattle.sheet.specs.Sheet.{op_at, view_to, view_sheet}
use Rattle.sheet.specs.Check.{check_of}
use Rattle.sheet.proofs.Accepted.{Accepted, accepted_facts}
use Rattle.sheet.proofs.Passed.{five_parts}
use Rattle.sheet.proofs.Laws.{cursor_alone}
use Rattle.sheet.proofs.Placed.{ops_many, ops_at}

-- the operator at a place (past the last, where nothing looks, any)
abbrev pub op_in : Abstract → ℕ → Op
op_in a i = get_or a.ops i (double 0 0 0)

-- one operator of a sheet with qs queues and vs variables
pub record SoundOp (qs vs : ℕ) (o : Op) : Type 0 where
  pub ins : all (λ (q : ℕ). ltb q qs) (reads o) ≡ true
  pub outs : all (λ (q : ℕ). ltb q qs) (defines o) ≡ true
  pub apart : fresh (λ (q : ℕ). false) (defines o) ≡ true
  pub named : all (λ (v : ℕ). ltb v vs) (names o) ≡ true
  pub small : Small o

pub record Sound (a : Abstract) : Type 0 where
  pub inputs : a.inputs ≤ a.queues
  pub queues : a.queues ≤ QUEUES
  pub variables : a.variables ≤ VARIABLES
  pub each : (i : ℕ) → i < length a.ops → SoundOp a.queues a.variables (op_in a i)
  pub alone : (i j v : ℕ) → i < length a.ops → j < length a.ops → (i ≡ j → ⊥) → member v (cursors (op_in a i)) ≡ true →
      member v (names (op_in a j)) ≡ false

module _ (t : Sheet) (h : check_of t ≡ accepted) where
  facts : Accepted t
  facts = accepted_facts t h

  operator_sound : (i : ℕ) → i < t.count → SoundOp t.queues t.variables (view (op_at t i))
  operator_sound i l =
      let o = view (op_at t i) in
      let k = known (view_to t i) in
      let j = facts.judged i l in
      let f = judged_four t.queues t.variables k o j in
      record {
        ins = four_reads t.queues k o f;
        outs = four_defines t.queues k o f;
        apart = fresh_fewer k.defined (λ (q : ℕ). false) (defines o) (λ q e. never e) (five_parts k o (judged_five t.queues t.variables k o j)).0;
        named = six_names t.variables k o (judged_six t.queues t.variables k o j);
        small = small_view (op_at t i) (facts.shaped i l);
      }

  alone_at : (i j v : ℕ) → i < t.count → j < t.count → (i ≡ j → ⊥) → member v (cursors (op_in (view_sheet t) i)) ≡ true →
      member v (names (op_in (view_sheet t) j)) ≡ false
  alone_at i j v a b d m =
      ap (λ (o : Op). member v (names o)) (ops_at t j b) ∙ cursor_alone t h i j v a b d (sym (ap (λ (o : Op). member v (cursors o)) (ops_at t i a)) ∙ m)

  pub sound_of_accepted : Sound (view_sheet t)
  sound_of_accepted =
      let r = ranges_of_good t.inputs t.queues t.variables t.count facts.head in
      record {
        inputs = r.within;
        queues = r.queues;
        variables = r.variables;
        each = λ i l.
            let b : i < t.count = omega (arith, ops_many t) in
            subst (λ (o : Op). SoundOp t.queues t.variables o) (sym (ops_at t i b)) (operator_sound i b);
        alone = λ i j v a b. alone_at i j v (omega (arith, ops_many t)) (omega (arith, ops_many t));
      }
