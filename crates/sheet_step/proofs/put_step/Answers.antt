-- `sheet_step::put_step` meets its contract: the stores in order are those of the step's bytes.
use Rattle.std.proofs.Common.{ℕ, List, [], ◌∷◌, ◌≡◌, ◌+◌, ◌-◌, length, refl, ap, ◌∙◌, arith, rules, to_z, of_z, w32}
use lib.Seq.{sets}
use native.Mathlib.Numerals.{towards_suc}
use Rattle.base_lists.proofs.Sets.{put_part}
use Rattle.base_number.specs.Number.{bits_bytes, int_bytes}
use Rattle.sheet_step.specs.declared.Step.{Step}
use Rattle.sheet_step.specs.Step.{code_of, step_bytes}
use Rattle.sheet_step.proofs.put_step.Goals as goal
use Rattle.sheet_step.proofs.put_step.Goals.{Start}

-- at the entry, where the search has few records to look through
low_back : (d : Start) → to_z w32 (of_z w32 d.args.t.low) ≡ d.args.t.low
low_back d = search rules

high_back : (d : Start) → to_z w32 (of_z w32 d.args.t.high) ≡ d.args.t.high
high_back d = search rules

whole : (s p : List ℕ) (at : ℕ) (t : Step) (f : ℕ) (a b : List ℕ) → f ≡ code_of t.func → p ≡ sets s at (f ∷ t.variable ∷ t.p ∷ t.r ∷ []) →
    a ≡ sets p (at + 4) (int_bytes t.low) → b ≡ sets a (at + 8) (int_bytes t.high) → b ≡ sets s at (step_bytes t)
unfolding bits_bytes step_bytes
whole s p at t f a b e d g h = rw (h, g, d, e) (simp towards_suc)

pub returns : goal.returns
returns c =
    let p = goal.at.returns c in
    let a = c.args in
    let low = rw (low_back p.Start) at c.put_int.ensures in
    let high = rw (high_back p.Start) at c.put_int-2.ensures in
    let e = c.copy_from_slice.ensures.after in
    let n : length c.copy_from_slice.new.self ≡ 4 = ap length e in
    let front = put_part a.at (a.at + 4 - a.at) a.s.now c.copy_from_slice.new.self (omega arith) (omega arith) ∙ ap (sets a.s.now a.at) e in
    whole a.s.now _ a.at a.t _ _ _ c.from.ensures front low high
