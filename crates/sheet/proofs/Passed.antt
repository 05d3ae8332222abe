-- What each passed test of the judge says of the operator's queues and variables.
-- Assumes nothing.
use mathlib.Core.Path.{◌≡◌}
use mathlib.Core.Bool.{true, false, not, ◌&&◌}
use Prim.Native.Nat.{ℕ, ◌<◌}
use lib.Dec.{ltb}
use borrow.Author.Tests.{ltb-true, not-true}
use Rattle.base_lists.specs.Lists.{all, member, fresh}
use Rattle.base_lists.proofs.Tests.{both, all_member}
use Rattle.sheet_operator.specs.Op.{Op, reads, defines, names, cursors}
use Rattle.sheet_judge.specs.Judge.{Known, four, five, six, variables_good}
use Rattle.sheet_judge.proofs.JudgedLaws as judged

-- 4
four_parts : (Q : ℕ) (k : Known) (o : Op) → four Q k o ≡ true →
    (all (λ (p : ℕ). ltb p Q && k.defined p) (reads o) ≡ true) × (all (λ (q : ℕ). ltb q Q) (defines o) ≡ true)
unfolding four
four_parts Q k o h = both _ _ h

pub four_reads : (Q : ℕ) (k : Known) (o : Op) → four Q k o ≡ true → (p : ℕ) → member p (reads o) ≡ true → (p < Q) × (k.defined p ≡ true)
four_reads Q k o h p m =
    let b = both (ltb p Q) (k.defined p) (all_member (λ (x : ℕ). ltb x Q && k.defined x) (reads o) (four_parts Q k o h).0 p m) in
    (ltb-true p Q b.0, b.1)

pub four_defines : (Q : ℕ) (k : Known) (o : Op) → four Q k o ≡ true → (q : ℕ) → member q (defines o) ≡ true → q < Q
four_defines Q k o h q m = ltb-true q Q (all_member (λ (x : ℕ). ltb x Q) (defines o) (judged.four_defines Q k o h) q m)

-- 5
pub five_parts : (k : Known) (o : Op) → five k o ≡ true → (fresh k.defined (defines o) ≡ true) × (fresh k.used (reads o) ≡ true)
unfolding five
five_parts k o h = both _ _ h

-- 6
six_parts : (vs : ℕ) (k : Known) (o : Op) → six vs k o ≡ true →
    (variables_good vs o ≡ true) × (all (λ (v : ℕ). not (k.cursor v)) (names o) ≡ true) × (all (λ (c : ℕ). not (k.named c)) (cursors o) ≡ true)
unfolding six
six_parts vs k o h =
    let a = both (variables_good vs o) (all (λ (v : ℕ). not (k.cursor v)) (names o) && all (λ (c : ℕ). not (k.named c)) (cursors o)) h in
    let b = both _ _ a.1 in
    (a.0, b.0, b.1)

pub six_below : (vs : ℕ) (k : Known) (o : Op) → six vs k o ≡ true → (v : ℕ) → member v (names o) ≡ true → v < vs
six_below vs k o h v m = ltb-true v vs (all_member (λ (x : ℕ). ltb x vs) (names o) (judged.six_names vs k o h) v m)

pub six_names : (vs : ℕ) (k : Known) (o : Op) → six vs k o ≡ true → (v : ℕ) → member v (names o) ≡ true → k.cursor v ≡ false
six_names vs k o h v m = not-true (k.cursor v) (all_member (λ (x : ℕ). not (k.cursor x)) (names o) (six_parts vs k o h).1 v m)

pub six_cursors : (vs : ℕ) (k : Known) (o : Op) → six vs k o ≡ true → (v : ℕ) → member v (cursors o) ≡ true → k.named v ≡ false
six_cursors vs k o h v m = not-true (k.named v) (all_member (λ (x : ℕ). not (k.named x)) (cursors o) (six_parts vs k o h).2 v m)
