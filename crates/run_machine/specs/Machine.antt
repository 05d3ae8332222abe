-- The machine of the report (Fig. 1): queues of items and variables; a firing, a feed, a take, and a run of firings.
use Rattle.std.specs.Prelude.{ℕ, ◌+◌, Bool, cond, not, ◌&&◌, List, [], ◌∷◌, ◌++◌, leb, ltb, length, get_or, set, ℤ}
use Rattle.base_lists.specs.Lists.{any, member}
use Rattle.sheet_operator.specs.Op.{Op, Abstract, reads}
use Rattle.base_bounds.specs.Bounds.{ROOM}
use Rattle.run_store.specs.declared.Item.{Item}
use Rattle.run_effect.specs.Effect.{Result, effect, waits}

pub record Machine : Type 0 where
  pub queues : List (List Item)
  pub vars : List ℤ

-- what a call makes of a machine: its refusal, or the next machine
pub data Outcome : Type 0 where
  refuse : ℕ → Outcome
  done : Machine → Outcome

-- no room: one of the queues holds 64
abbrev pub full : List (List Item) → List ℕ → Bool
full qs to = any (λ (q : ℕ). leb ROOM (length (get_or qs q []))) to

-- the item at the end of each of the queues
abbrev pub put_all : List (List Item) → List ℕ → Item → List (List Item)
put_all qs [] x = qs
put_all qs (q ∷ to) x = put_all (set qs q (get_or qs q [] ++ (x ∷ []))) to x

-- E-FIREQUEUE: the operator takes the first item of q, F_b says what it does, and the items go to the ends of their queues;
-- before that 10 where q is empty, 11 where a gather waits for another queue, 12 where there is no room
unfoldable pub commit : Machine → ℕ → List Item → Result → Outcome
commit m q xs r =
    cond (full m.queues r.puts) (refuse 12)
    (done (record { queues = put_all (set m.queues q xs) r.puts r.item; vars = r.vars }))

unfoldable pub fire_from : Op → Machine → ℕ → List Item → Outcome
fire_from o m q [] = refuse 10
fire_from o m q (x ∷ xs) = cond (waits o q m.vars) (refuse 11) (commit m q xs (effect o x m.vars))

abbrev pub fire_op : Op → Machine → ℕ → Outcome
fire_op o m q = fire_from o m q (get_or m.queues q [])

-- the operator that reads q fires; 9 where none does
unfoldable pub fire_first : List Op → Machine → ℕ → Outcome
fire_first [] m q = refuse 9
fire_first (o ∷ os) m q = cond (member q (reads o)) (fire_op o m q) (fire_first os m q)

abbrev pub fire_m : Abstract → Machine → ℕ → Outcome
fire_m a m q = fire_first a.ops m q

-- a feed puts an item on an input
unfoldable pub feed_m : Abstract → Machine → ℕ → Item → Outcome
feed_m a m q x =
    cond (ltb q a.inputs)
    (cond (full m.queues (q ∷ [])) (refuse 12) (done (record { queues = put_all m.queues (q ∷ []) x; vars = m.vars })))
    (refuse 9)

-- an output is a queue that no operator reads; a take removes its oldest item and answers it
abbrev pub is_output : Abstract → ℕ → Bool
is_output a q = ltb q a.queues && not (any (λ (o : Op). member q (reads o)) a.ops)

pub data Take : Type 0 where
  none : ℕ → Take
  took : Item → Machine → Take

abbrev pub take_from : Machine → ℕ → List Item → Take
take_from m q [] = none 10
take_from m q (x ∷ xs) = took x (record { queues = set m.queues q xs; vars = m.vars })

unfoldable pub take_m : Abstract → Machine → ℕ → Take
take_m a m q = cond (is_output a q) (take_from m q (get_or m.queues q [])) (none 9)

-- a run fires each queue of a list in turn and skips those refused
pub record Ran : Type 0 where
  pub fired : ℕ
  pub skipped : ℕ
  pub machine : Machine

abbrev pub ran_on : Outcome → Ran → Ran
ran_on (refuse k) r = record { fired = r.fired; skipped = r.skipped + 1; machine = r.machine }
ran_on (done m) r = record { fired = r.fired + 1; skipped = r.skipped; machine = m }

unfoldable pub run_from : Abstract → List ℕ → Ran → Ran
run_from a [] r = r
run_from a (q ∷ qs) r = run_from a qs (ran_on (fire_m a r.machine q) r)

abbrev pub run_m : Abstract → List ℕ → Machine → Ran
run_m a qs m = run_from a qs (record { fired = 0; skipped = 0; machine = m })
