-- What owning an operator tells of it: every operator that the program holds, alone or in an array, is `Held`.
-- Assumes nothing.
use mathlib.Core.Path.{◌≡◌, refl, sym, ◌∙◌, subst}
use Rattle.std.proofs.lemmas.List.{map-id}
use mathlib.Core.List.{List, [], ◌∷◌, map}
use Prim.Native.Nat.{ℕ, zero, suc, ◌<◌}
use lib.Dec.{lit<}
use lib.ListN.{length, get_or, length-map}
use mir.Syntax.{w32}
use mir.Val.{Val, SFits}
use borrow.Author.Rules.{sfits_of}
use denote.Array.{each}
use denote.Shadow.{shadow}
use denote.Struct.Field.{Field, array_field, row_field, u8-field}
use Rattle.base_lists.specs.Lists.{pad}
use Rattle.base_lists.proofs.Pad.{pad_none}
use Rattle.base_lists.proofs.Places.{get_d_any}
use Rattle.sheet_step.specs.Step.{no_step}
use Rattle.sheet_step.specs.declared.Step.{Step}
use Rattle.sheet_step.specs.contracts.Step as step
use Rattle.sheet_operator.specs.declared.Operator.{Operator}
use Rattle.sheet_operator.specs.Memory.{PLACES, no_operator, Held}
use Rattle.sheet_operator.specs.contracts.Operator as operator

-- what owning a value of a field's type says, of the author's value
abbrev pub Owned : (F : Field) → F.Value → List Val → Type 0
Owned F x vs = shadow (F.row.own_val (F.into x) vs)

-- of each element of an array, and past its end, where the default has it too
each_at : (F : Field) (P : F.Value → Type 0) (d : F.Value) → P d → ((x : F.Value) (vs : List Val) → Owned F x vs → P x) →
    (xs : List F.Value) (us : List Val) → shadow (each F.row.Denot F.row.own_val (map F.into xs) us) → (k : ℕ) → P (get_or xs k d)
each_at F P d e f [] us p k = e
each_at F P d e f (x ∷ xs) [] p k = absurd p
each_at F P d e f (x ∷ xs) (u ∷ us) p zero = f x (u ∷ []) p.0
each_at F P d e f (x ∷ xs) (u ∷ us) p (suc k) = each_at F P d e f xs us p.1 k

pub array_at : (F : Field) (P : F.Value → Type 0) (d : F.Value) → P d → ((x : F.Value) (vs : List Val) → Owned F x vs → P x) → (n : ℕ) →
    (xs : List F.Value) (vs : List Val) → Owned (array_field F n) xs vs → (length xs ≡ n) × ((k : ℕ) → P (get_or xs k d))
array_at F P d e f n xs vs p = (sym (length-map xs F.into) ∙ p.1.0.1, each_at F P d e f xs p.0 p.1.1)

record Numbers (t : Step) : Type 0 where
  variable : t.variable < 256
  p : t.p < 256
  r : t.r < 256
  low : SFits w32 t.low
  high : SFits w32 t.high

numbers : (t : Step) (vs : List Val) → Owned (row_field step.the_row) t vs → Numbers t
numbers t vs o =
    let f = o.1.1.1 in
    record {
      variable = f.0.1;
      p = f.1.0.1;
      r = f.1.1.0.1;
      low = sfits_of f.1.1.1.0.1;
      high = sfits_of f.1.1.1.1.0.1;
    }

no_numbers : Numbers no_step
no_numbers = record { variable = lit< tt; p = lit< tt; r = lit< tt; low = sfits_of (lit< tt); high = sfits_of (lit< tt) }

abbrev OwnedBytes : List ℕ → List Val → Type 0
OwnedBytes xs vs = shadow ((array_field u8-field PLACES).row.own_val xs vs)

bytes : (xs : List ℕ) (vs : List Val) → OwnedBytes xs vs → (length xs ≡ PLACES) × ((k : ℕ) → get_or xs k 0 < 256)
bytes xs vs p =
    array_at u8-field (λ (x : ℕ). x < 256) 0 (lit< tt) (λ x vs o. o.1) PLACES xs vs
    (subst (λ (l : List ℕ). OwnedBytes l vs) (sym (map-id xs)) p)

abbrev OwnedSteps : List Step → List Val → Type 0
OwnedSteps ts vs = shadow ((array_field (row_field step.the_row) PLACES).row.own_val ts vs)

held_steps : (ts : List Step) (vs : List Val) → OwnedSteps ts vs → (length ts ≡ PLACES) × ((k : ℕ) → Numbers (get_or ts k no_step))
held_steps ts vs p =
    array_at (row_field step.the_row) Numbers no_step no_numbers numbers PLACES ts vs
    (subst (λ (l : List Step). OwnedSteps l vs) (sym (map-id ts)) p)

pub held_of : (o : Operator) (vs : List Val) → Owned operator.the_field o vs → Held o
held_of o vs p =
    let f = p.1.1.1 in
    let ins = bytes o.ins _ f.1.1.1.0 in
    let outs = bytes o.outs _ f.1.1.1.1.0 in
    let steps = held_steps o.steps _ f.1.1.1.1.1.0 in
    record {
      ins_full = ins.0;
      outs_full = outs.0;
      steps_full = steps.0;
      count_byte = f.0.1;
      variable_byte = f.1.0.1;
      field_byte = f.1.1.0.1;
      ins_bytes = ins.1;
      outs_bytes = outs.1;
      step_variables = λ k. (steps.1 k).variable;
      step_ps = λ k. (steps.1 k).p;
      step_rs = λ k. (steps.1 k).r;
      step_lows = λ k. (steps.1 k).low;
      step_highs = λ k. (steps.1 k).high;
    }

no_byte : (k : ℕ) → get_or (pad {A = ℕ} PLACES 0 []) k 0 < 256
no_byte k = rw (pad_none {A = ℕ} PLACES 0 k) (lit< tt)

pub held_no_operator : Held no_operator
held_no_operator =
    let none : (k : ℕ) → Numbers (get_or (pad PLACES no_step []) k no_step) = λ k. rw (pad_none PLACES no_step k) no_numbers in
    record {
      ins_full = refl;
      outs_full = refl;
      steps_full = refl;
      count_byte = lit< tt;
      variable_byte = lit< tt;
      field_byte = lit< tt;
      ins_bytes = no_byte;
      outs_bytes = no_byte;
      step_variables = λ k. (none k).variable;
      step_ps = λ k. (none k).p;
      step_rs = λ k. (none k).r;
      step_lows = λ k. (none k).low;
      step_highs = λ k. (none k).high;
    }

-- the operators of an array; past its end the program reads an operator with empty arrays, which is not `no_operator`
pub held_all : (n : ℕ) (l : List Operator) (vs : List Val) → Owned (array_field operator.the_field n) l vs →
    (length l ≡ n) × ((k : ℕ) (d : Operator) → k < n → Held (get_or l k d))
held_all n l vs p =
    let a = array_at operator.the_field Held no_operator held_no_operator held_of n l vs p in
    (a.0, λ k d h. rw (get_d_any l k d no_operator (rw a.0 h)) (a.1 k))

-- the same of the operators of an array that stands in a struct
pub held_row : (n : ℕ) (l : List Operator) (vs : List Val) → shadow ((array_field (row_field operator.the_row) n).row.own_val l vs) →
    (length l ≡ n) × ((k : ℕ) (d : Operator) → k < n → Held (get_or l k d))
held_row n l vs p =
    let a =
    array_at (row_field operator.the_row) Held no_operator held_no_operator held_of n l vs
    (subst (λ (t : List Operator). shadow ((array_field (row_field operator.the_row) n).row.own_val t vs)) (sym (map-id l)) p) in
    (a.0, λ k d h. rw (get_d_any l k d no_operator (rw a.0 h)) (a.1 k))
