-- `run_store::push_part` meets its contract: the item's numbers are copied to its place.
use Rattle.std.proofs.Common.{◌≡◌, ◌+◌, ◌-◌, ◌*◌, List, ℤ, refl, ap, ◌∙◌, arith, rules, length}
use lib.Seq.{sets, sets-eq}
use Rattle.base_bounds.specs.Bounds.{FIELDS}
use Rattle.base_lists.proofs.Sets.{put_part}
use Rattle.run_store.specs.Store.{pushed}
use Rattle.run_store.proofs.QueueLaws.{fields_of_wide}
use Rattle.run_store.proofs.push_part.Goals as goal

pub returns : goal.returns
unfolding pushed
returns c =
    let a = c.args in
    let at = FIELDS * a.count in
    let e = c.copy_from_slice.ensures.after in
    let w : length a.x.f ≡ FIELDS = search rules in
    let n : length c.copy_from_slice.new.self ≡ FIELDS = ap length e ∙ w in
    put_part at (at + FIELDS - at) a.part.now c.copy_from_slice.new.self (omega arith) (omega arith)
    ∙ ap (sets a.part.now at) e ∙ sets-eq a.x.f a.part.now at (omega arith) ∙ rw (fields_of_wide a.x w, w) refl
