-- What a call that sets one number leaves: that place holds the value and nothing else changes, and a bad body changes nothing.
use Rattle.std.specs.Prelude.{ℕ, ◌≡◌, ◌<◌, Bool, Option, is_some, IfSome, unwrap_or, cond, ◌&&◌, List, eqb, ltb, ℤ, length, get_or, set, drop}
use Rattle.base_number.specs.Number.{short_of, int_of}
use Rattle.base_bounds.specs.Bounds.{VARIABLES, QUEUES}
use Rattle.run_machine.specs.declared.State.{State}

-- a body of n bytes, the first of which is below `places`
abbrev pub names_place : List ℕ → ℕ → ℕ → Bool
names_place body n places = eqb (length body) n && ltb (get_or body 0 0) places

-- and that place, where it is
pub record NamesPlace (body : List ℕ) (n places : ℕ) (r : Option ℕ) : Type 0 where
  pub test : is_some r ≡ names_place body n places
  pub place : IfSome r (λ (k : ℕ). (k ≡ get_or body 0 0) × (k < places) × (length body ≡ n))

abbrev pub with_count : State → ℕ → ℕ → State
with_count st q n = record { counts = set st.counts q n; vars = st.vars }

abbrev pub with_variable : State → ℕ → ℤ → State
with_variable st v z = record { counts = st.counts; vars = set st.vars v z }

pub record CountSet (body : List ℕ) (st : State) (r : Option State) : Type 0 where
  pub test : is_some r ≡ names_place body 2 QUEUES
  pub held : unwrap_or r st ≡ cond (is_some r) (with_count st (get_or body 0 0) (get_or body 1 0)) st

pub record VariableSet (body : List ℕ) (st : State) (r : Option State) : Type 0 where
  pub test : is_some r ≡ names_place body 5 VARIABLES
  pub held : unwrap_or r st ≡ cond (is_some r) (with_variable st (get_or body 0 0) (int_of (drop 1 body))) st

pub record NumberSet (body : List ℕ) (store : List ℤ) (good : Bool) (after : List ℤ) : Type 0 where
  pub test : good ≡ eqb (length body) 6 && ltb (short_of body) (length store)
  pub held : after ≡ cond good (set store (short_of body) (int_of (drop 2 body))) store
