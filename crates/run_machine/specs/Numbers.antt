-- A machine in numbers: counts, variables and the lent store; back; and the numbers that refusal 8 lets pass.
use Rattle.std.specs.Prelude.{ℕ, ◌≤◌, ◌≡◌, Bool, true, ◌&&◌, List, [], map, eqb, length, get_or, drop, ℤ, pos}
use Rattle.base_lists.specs.Lists.{all}
use Rattle.sheet_operator.specs.Op.{Op, Abstract}
use Rattle.base_bounds.specs.Bounds.{VARIABLES, QUEUES}
use Rattle.run_store.specs.Store.{STORE}
use Rattle.run_store.specs.Queues.{store_of, queues_of, Fit, AllWide}
use Rattle.run_store.specs.Quiet.{quiet_from}
use Rattle.base_number.specs.Number.{is_zero}
use Rattle.run_effect.specs.Effect.{cursor_good}
use Rattle.run_machine.specs.declared.State.{State}
use Rattle.run_machine.specs.Machine.{Machine}

abbrev pub decode : State → List ℤ → Machine
decode st s = record { queues = queues_of s 0 st.counts; vars = st.vars }

abbrev pub state_of : Machine → State
state_of m = record { counts = map length m.queues; vars = m.vars }

abbrev pub store_in : Machine → List ℤ
store_in m = store_of m.queues

-- the store's length; at most 64 items to a queue and zeros past the last; nothing from Q and from V on; every cursor in its range
unfoldable pub good : Abstract → State → List ℤ → Bool
good a st s =
    eqb (length s) STORE && (quiet_from s 0 st.counts
    && (all (λ (n : ℕ). eqb n 0) (drop a.queues st.counts) && (all is_zero (drop a.variables st.vars)
    && all (λ (o : Op). cursor_good o st.vars) a.ops)))

-- a good state of a sheet
pub record GoodM (a : Abstract) (m : Machine) : Type 0 where
  pub many : length m.queues ≡ QUEUES
  pub fit : Fit m.queues
  pub wide : AllWide m.queues
  pub far : (q : ℕ) → a.queues ≤ q → get_or m.queues q [] ≡ []
  pub size : length m.vars ≡ VARIABLES
  pub none : (v : ℕ) → a.variables ≤ v → get_or m.vars v (pos 0) ≡ pos 0
  pub cursors : all (λ (o : Op). cursor_good o m.vars) a.ops ≡ true
