-- Reading a sheet's operators, turn by turn: one record more, the first that is refused, and the end; and the store of one operator more.
-- Assumes nothing.
use mathlib.Core.Path.{◌≡◌, refl, ap, ◌∙◌, sym}
use mathlib.Core.Bool.{Bool, cond}
use mathlib.Core.List.{List, [], ◌∷◌, map, map-append}
use Prim.Native.Nat.{ℕ, suc, ◌+◌, ◌-◌, ◌<◌, ◌≤◌}
use native.Mathlib.Omega.{arith}
use lib.ListN.{length, set, length-map}
use borrow.Author.Tests.{eq-eqb, ne_eqb}
use Rattle.base_lists.specs.Lists.{pad}
use Rattle.base_lists.proofs.Pad.{pad_set}
use Rattle.sheet_operator.specs.Op.{Op, Abstract, with}
use Rattle.sheet_operator.specs.Memory.{memory, no_operator}
use Rattle.sheet_format.specs.Record.{taken, op_in, rest_in}
use Rattle.base_bounds.specs.Bounds.{OPERATORS}
use Rattle.sheet.specs.Sheet.{memory_sheet}
use Rattle.sheet.specs.Check.{stopped, kept, next_record}
use Rattle.codec_read.specs.Read.{number_after, read_from}

-- one record of those that are left
pub read_more : (n : ℕ) (a : Abstract) (s : List ℕ) → number_after a (taken s) ≡ 0 →
    read_from (suc n) a s ≡ read_from n (with a (op_in (taken s))) (rest_in (taken s))
unfolding read_from
read_more n a s h =
    ap (λ (b : Bool). cond b (read_from n (with a (op_in (taken s))) (rest_in (taken s))) (stopped (number_after a (taken s)) (next_record a)))
    (eq-eqb (number_after a (taken s)) 0 h)

pub read_refuse : (n : ℕ) (a : Abstract) (s : List ℕ) → (number_after a (taken s) ≡ 0 → ⊥) →
    read_from (suc n) a s ≡ stopped (number_after a (taken s)) (next_record a)
unfolding read_from
read_refuse n a s h =
    ap (λ (b : Bool). cond b (read_from n (with a (op_in (taken s))) (rest_in (taken s))) (stopped (number_after a (taken s)) (next_record a)))
    (ne_eqb (number_after a (taken s)) 0 h)

pub read_none : (a : Abstract) (s : List ℕ) → read_from 0 a s ≡ kept a s
unfolding read_from
read_none a s = refl

-- the same at turn i of a loop over n records
pub read_next : (n i : ℕ) (a : Abstract) (s : List ℕ) → i < n → number_after a (taken s) ≡ 0 →
    read_from (n - i) a s ≡ read_from (n - (i + 1)) (with a (op_in (taken s))) (rest_in (taken s))
read_next n i a s l h =
    let e : n - i ≡ suc (n - (i + 1)) = omega arith in
    ap (λ (m : ℕ). read_from m a s) e ∙ read_more (n - (i + 1)) a s h

pub read_stop : (n i : ℕ) (a : Abstract) (s : List ℕ) → i < n → (number_after a (taken s) ≡ 0 → ⊥) →
    read_from (n - i) a s ≡ stopped (number_after a (taken s)) (next_record a)
read_stop n i a s l h =
    let e : n - i ≡ suc (n - (i + 1)) = omega arith in
    ap (λ (m : ℕ). read_from m a s) e ∙ read_refuse (n - (i + 1)) a s h

pub read_end_lem : (n i : ℕ) (a : Abstract) (s : List ℕ) → n ≤ i → read_from (n - i) a s ≡ kept a s
read_end_lem n i a s l =
    let e : n - i ≡ 0 = omega arith in
    ap (λ (m : ℕ). read_from m a s) e ∙ read_none a s

-- one operator more is one store
pub memory_more : (a : Abstract) (o : Op) → length a.ops < OPERATORS →
    set (memory_sheet a).operators (length a.ops) (memory o) ≡ (memory_sheet (with a o)).operators
memory_more a o l =
    let n = length-map a.ops memory in
    ap (λ (k : ℕ). set (pad OPERATORS no_operator (map memory a.ops)) k (memory o)) (sym n)
    ∙ pad_set OPERATORS no_operator (map memory a.ops) (memory o) (omega arith)
    ∙ ap (pad OPERATORS no_operator) (sym (map-append memory a.ops (o ∷ [])))
