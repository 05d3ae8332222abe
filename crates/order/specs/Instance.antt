-- One instance of demand 3: document 01's sheet A, and A reordered and then its Add line split two ways, each fired in an order of its own.
use Rattle.std.specs.Prelude.{ℕ, List, [], ◌∷◌, map, replicate, pos, negsuc}
use Rattle.sheet_step.specs.declared.Step.{Step}
use Rattle.sheet_operator.specs.Op.{line}
use Rattle.base_bounds.specs.Bounds.{VARIABLES, QUEUES}
use Rattle.sheet.specs.declared.Sheet.{Sheet}
use Rattle.run_store.specs.Store.{STORE}
use Rattle.run_store.specs.declared.Item.{Item}
use Rattle.run_machine.specs.declared.State.{State}
use Rattle.rewriter.specs.Calls.{split_of}
use Rattle.order.specs.Order.{Feed}
use Rattle.order.specs.Demand.{Side}
use Rattle.order.specs.Sequences.{Turn, firing, running, Course}
use Rattle.order.specs.Samples.{sheet_of, item, keep_in, add_to}

-- what state and store hold before a fresh start does not matter
abbrev pub stale : State
stale = record { counts = replicate QUEUES 3; vars = replicate VARIABLES (pos 5) }

abbrev pub side : Sheet → List Feed → List ℕ → Side
side t fs l = record { sheet = t; state = stale; store = replicate STORE (pos 7); feeds = fs; firings = l }

abbrev pub keep_two : Step
keep_two = keep_in 0 (pos 2) (pos 2)

abbrev pub less_five : Step
less_five = add_to 1 (negsuc 4)

abbrev pub sheet_a : Sheet
sheet_a = sheet_of 1 3 0 (line 0 1 (keep_two ∷ []) ∷ line 1 2 (less_five ∷ []) ∷ [])

abbrev pub items_a : List Item
items_a =
    item (pos 2 ∷ pos 50 ∷ []) ∷ item (pos 1 ∷ pos 40 ∷ []) ∷ item (pos 2 ∷ negsuc 2 ∷ pos 7 ∷ []) ∷ []

abbrev pub feeds_a : List Feed
feeds_a = map (λ (x : Item). record { queue = 0; item = x }) items_a

-- reordered, A's Add step stands in the first line
abbrev pub reordered_a : Sheet
reordered_a = sheet_of 1 3 0 (line 0 1 (less_five ∷ []) ∷ line 1 2 (keep_two ∷ []) ∷ [])

abbrev pub remade_a : Sheet
remade_a = (split_of reordered_a 0 2).sheet

abbrev pub plain_side : Side
plain_side = side sheet_a feeds_a (0 ∷ 0 ∷ 1 ∷ 0 ∷ 1 ∷ [])

abbrev pub remade_side : Side
remade_side = side remade_a feeds_a (0 ∷ 0 ∷ 4 ∷ 6 ∷ 0 ∷ 3 ∷ 3 ∷ 5 ∷ 6 ∷ 1 ∷ 5 ∷ 1 ∷ 1 ∷ [])

-- the same two sides by firings and runs one after the other, refused ones among them
abbrev pub course : Side → List Turn → Course
course x calls = record { sheet = x.sheet; state = x.state; store = x.store; feeds = x.feeds; calls = calls }

abbrev pub plain_course : Course
plain_course = course plain_side (firing 0 ∷ firing 2 ∷ running (0 ∷ 1 ∷ []) ∷ firing 0 ∷ running (7 ∷ 1 ∷ []) ∷ [])

abbrev pub remade_course : Course
remade_course = course remade_side (running (0 ∷ 0 ∷ 4 ∷ 6 ∷ []) ∷ firing 0 ∷ running (3 ∷ 3 ∷ 5 ∷ 6 ∷ []) ∷ firing 1 ∷ running (5 ∷ 1 ∷ 1 ∷ []) ∷ [])
