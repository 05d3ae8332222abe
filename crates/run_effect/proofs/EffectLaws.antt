-- What every effect keeps to: it puts at most one item on each of its operator's outputs, writes only variables that the operator names,
-- keeps the lengths of the variables and of the item, and leaves a cursor in its range. Assumes nothing.
use mathlib.Core.Path.{◌≡◌, refl, ap, ◌∙◌}
use mathlib.Core.Bool.{Bool, true, false, cond}
use mathlib.Core.List.{List, [], ◌∷◌}
use Prim.Native.Nat.{ℕ, ◌+◌, ◌≤◌, ◌<◌, ◌%◌}
use native.Mathlib.Omega.{arith}
use lib.Dec.{ltb}
use lib.ListN.{length, get_or, length-set}
use lib.Seq.{get_or-set_same, get_or-set_other}
use lib.IntN.{ℤ, pos}
use borrow.Author.Tests.{lt-ltb, ltb-true}
use Rattle.base_lists.specs.Lists.{all, member, fresh, times}
use Rattle.base_lists.proofs.Build.{never}
use Rattle.base_lists.proofs.Tests.{both, both_of, all_get_d}
use Rattle.base_lists.proofs.Times.{fresh_times}
use Rattle.base_lists.proofs.Members.{member_at, is_only, not_only}
use Rattle.base_bounds.specs.Bounds.{FIELDS}
use Rattle.run_store.specs.declared.Item.{Item}
use Rattle.sheet_operator.specs.Op.{Op, line, latest, double, deal, gather, defines, names, cursors}
use Rattle.run_effect.specs.Flow.{lined}
use Rattle.run_effect.specs.Effect.{cursor_at, moved_on, effect, in_ways, cursor_good}
use Rattle.run_effect.proofs.FlowLaws.{lined_vars_length, lined_item_length, lined_frame}
use Rattle.run_effect.proofs.Cursors.{in_ways_below, next_below}

-- the item of a line goes to its output or nowhere
line_all : (f : ℕ → Bool) (b : Bool) (q : ℕ) → all f (q ∷ []) ≡ true → all f (cond b (q ∷ []) []) ≡ true
line_all f true q h = h
line_all f false q h = refl

line_apart : (b : Bool) (q : ℕ) → fresh (λ (k : ℕ). false) (cond b (q ∷ []) []) ≡ true
line_apart true q = refl
line_apart false q = refl

line_defined : (k : ℕ) (b : Bool) (q : ℕ) → member k (cond b (q ∷ []) []) ≡ true → member k (q ∷ []) ≡ true
line_defined k true q h = h
line_defined k false q h = never h

-- what holds of every output of an operator holds of every queue that it puts its item on
pub effect_puts_all : (f : ℕ → Bool) (o : Op) (x : Item) (vs : List ℤ) → cursor_good o vs ≡ true → all f (defines o) ≡ true → all f (effect o x vs).puts ≡ true
unfolding effect cursor_good
effect_puts_all f (line p q ss) x vs g h = line_all f (lined ss (record { kept = true; item = x; vars = vs })).kept q h
effect_puts_all f (latest p v i) x vs g h = refl
effect_puts_all f (double p q r) x vs g h = h
effect_puts_all f (deal c p qs) x vs g h =
    both_of (f (get_or qs (cursor_at c vs) 0)) true (all_get_d f qs 0 h (cursor_at c vs) (in_ways_below (get_or vs c (pos 0)) (length qs) g)) refl
effect_puts_all f (gather c q ps) x vs g h = h

pub effect_puts_below : (o : Op) (x : Item) (vs : List ℤ) (n : ℕ) → cursor_good o vs ≡ true → all (λ (q : ℕ). ltb q n) (defines o) ≡ true →
    all (λ (q : ℕ). ltb q n) (effect o x vs).puts ≡ true
effect_puts_below o x vs n g h = effect_puts_all (λ (q : ℕ). ltb q n) o x vs g h

pub effect_puts_apart : (o : Op) (x : Item) (vs : List ℤ) → fresh (λ (q : ℕ). false) (defines o) ≡ true → fresh (λ (q : ℕ). false) (effect o x vs).puts ≡ true
unfolding effect
effect_puts_apart (line p q ss) x vs h = line_apart (lined ss (record { kept = true; item = x; vars = vs })).kept q
effect_puts_apart (latest p v i) x vs h = refl
effect_puts_apart (double p q r) x vs h = h
effect_puts_apart (deal c p qs) x vs h = refl
effect_puts_apart (gather c q ps) x vs h = refl

-- so at most one item on each
pub effect_puts_once : (o : Op) (x : Item) (vs : List ℤ) → fresh (λ (q : ℕ). false) (defines o) ≡ true → (k : ℕ) → times k (effect o x vs).puts ≤ 1
effect_puts_once o x vs h = fresh_times (λ (q : ℕ). false) (effect o x vs).puts (effect_puts_apart o x vs h)

pub effect_puts_defined : (o : Op) (x : Item) (vs : List ℤ) (k : ℕ) → cursor_good o vs ≡ true → member k (effect o x vs).puts ≡ true → member k (defines o) ≡ true
unfolding effect cursor_good
effect_puts_defined (line p q ss) x vs k g h = line_defined k (lined ss (record { kept = true; item = x; vars = vs })).kept q h
effect_puts_defined (latest p v i) x vs k g h = never h
effect_puts_defined (double p q r) x vs k g h = h
effect_puts_defined (deal c p qs) x vs k g h =
    rw (is_only k (get_or qs (cursor_at c vs) 0) h) (member_at qs (cursor_at c vs) (in_ways_below (get_or vs c (pos 0)) (length qs) g))
effect_puts_defined (gather c q ps) x vs k g h = h

pub effect_vars_length : (o : Op) (x : Item) (vs : List ℤ) → length (effect o x vs).vars ≡ length vs
unfolding effect
effect_vars_length (line p q ss) x vs = lined_vars_length ss (record { kept = true; item = x; vars = vs })
effect_vars_length (latest p v i) x vs = length-set vs v (get_or x.f i (pos 0))
effect_vars_length (double p q r) x vs = refl
effect_vars_length (deal c p qs) x vs = length-set vs c (pos ((cursor_at c vs + 1) % length qs))
effect_vars_length (gather c q ps) x vs = length-set vs c (pos ((cursor_at c vs + 1) % length ps))

pub effect_item_length : (o : Op) (x : Item) (vs : List ℤ) → length (effect o x vs).item.f ≡ length x.f
unfolding effect
effect_item_length (line p q ss) x vs = lined_item_length ss (record { kept = true; item = x; vars = vs })
effect_item_length (latest p v i) x vs = refl
effect_item_length (double p q r) x vs = refl
effect_item_length (deal c p qs) x vs = refl
effect_item_length (gather c q ps) x vs = refl

pub effect_item_wide : (o : Op) (x : Item) (vs : List ℤ) → length x.f ≡ FIELDS → length (effect o x vs).item.f ≡ FIELDS
effect_item_wide o x vs h = effect_item_length o x vs ∙ h

-- an operator writes only variables that it names
pub effect_frame : (o : Op) (x : Item) (vs : List ℤ) (v : ℕ) → member v (names o) ≡ false → get_or (effect o x vs).vars v (pos 0) ≡ get_or vs v (pos 0)
unfolding effect
effect_frame (line p q ss) x vs v h = lined_frame ss (record { kept = true; item = x; vars = vs }) v h
effect_frame (latest p w i) x vs v h = get_or-set_other vs w v (get_or x.f i (pos 0)) (pos 0) (not_only v w h)
effect_frame (double p q r) x vs v h = refl
effect_frame (deal c p qs) x vs v h = get_or-set_other vs c v (pos ((cursor_at c vs + 1) % length qs)) (pos 0) (not_only v c h)
effect_frame (gather c q ps) x vs v h = get_or-set_other vs c v (pos ((cursor_at c vs + 1) % length ps)) (pos 0) (not_only v c h)

-- a cursor that has moved on lies in its range
moved_in_ways : (c : ℕ) (vs : List ℤ) (ways : ℕ) → in_ways (get_or vs c (pos 0)) ways ≡ true → c < length vs → in_ways (get_or (moved_on c ways vs) c (pos 0)) ways ≡ true
moved_in_ways c vs ways g h =
    let n = cursor_at c vs in
    let l = next_below n ways (in_ways_below (get_or vs c (pos 0)) ways g) in
    ap (λ (z : ℤ). in_ways z ways) (get_or-set_same vs c (pos ((n + 1) % ways)) (pos 0) h) ∙ lt-ltb ((n + 1) % ways) ways l

pub effect_cursor_good : (o : Op) (x : Item) (vs : List ℤ) → all (λ (c : ℕ). ltb c (length vs)) (cursors o) ≡ true → cursor_good o vs ≡ true →
    cursor_good o (effect o x vs).vars ≡ true
unfolding effect cursor_good
effect_cursor_good (line p q ss) x vs h g = refl
effect_cursor_good (latest p v i) x vs h g = refl
effect_cursor_good (double p q r) x vs h g = refl
effect_cursor_good (deal c p qs) x vs h g = moved_in_ways c vs (length qs) g (ltb-true c (length vs) (both (ltb c (length vs)) true h).0)
effect_cursor_good (gather c q ps) x vs h g = moved_in_ways c vs (length ps) g (ltb-true c (length vs) (both (ltb c (length vs)) true h).0)

-- the cursor is the only variable that its range asks of
pub cursor_good_frame : (o : Op) (vs us : List ℤ) → ((c : ℕ) → member c (cursors o) ≡ true → get_or us c (pos 0) ≡ get_or vs c (pos 0)) →
    cursor_good o us ≡ cursor_good o vs
unfolding cursor_good
cursor_good_frame (line p q ss) vs us h = refl
cursor_good_frame (latest p v i) vs us h = refl
cursor_good_frame (double p q r) vs us h = refl
cursor_good_frame (deal c p qs) vs us h = ap (λ (z : ℤ). in_ways z (length qs)) (h c (member_at (c ∷ []) 0 (omega arith)))
cursor_good_frame (gather c q ps) vs us h = ap (λ (z : ℤ). in_ways z (length ps)) (h c (member_at (c ∷ []) 0 (omega arith)))

-- so an operator that names no cursor of another leaves that cursor as it is
pub effect_other_cursor : (o p : Op) (x : Item) (vs : List ℤ) → ((c : ℕ) → member c (cursors p) ≡ true → member c (names o) ≡ false) →
    cursor_good p (effect o x vs).vars ≡ cursor_good p vs
effect_other_cursor o p x vs h = cursor_good_frame p vs (effect o x vs).vars (λ c m. effect_frame o x vs c (h c m))

-- a cursor is named
pub cursors_named : (f : ℕ → Bool) (o : Op) → all f (names o) ≡ true → all f (cursors o) ≡ true
cursors_named f (line p q ss) h = refl
cursors_named f (latest p v i) h = refl
cursors_named f (double p q r) h = refl
cursors_named f (deal c p qs) h = h
cursors_named f (gather c q ps) h = h
