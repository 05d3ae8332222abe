-- What is known of the operators kept: by its parts, and with one operator more.
-- Assumes nothing.
use mathlib.Core.Path.{◌≡◌, ap, ◌∙◌, fun_ext}
use mathlib.Core.Bool.{Bool, cond, ◌||◌, or_comm, or-false}
use mathlib.Core.List.{List, [], ◌∷◌, ◌++◌}
use Prim.Native.Nat.{ℕ}
use lib.Dec.{ltb}
use borrow.Author.Tests.{eq-eqb}
use Rattle.std.specs.Prelude.{Result}
use Rattle.std.specs.Result.{result_unwrap_or}
use Rattle.base_lists.specs.Lists.{any, member}
use Rattle.base_lists.proofs.Tests.{any_append, or_first}
use Rattle.base_refusal.specs.declared.Reason.{Reason}
use Rattle.base_refusal.specs.Refusal.{number_or_zero}
use Rattle.sheet_operator.specs.Op.{Op, Abstract, reads, defines, names, cursors, with}
use Rattle.sheet_operator.specs.Memory.{view}
use Rattle.sheet_operator.specs.declared.Operator.{Operator}
use Rattle.sheet_judge.specs.declared.Seen.{Seen}
use Rattle.sheet_judge.specs.Judge.{Known, known, after}
use Rattle.sheet_judge.specs.Seen.{known_by, Admits}

pub known_eq : {d d' u u' n n' c c' : ℕ → Bool} → d ≡ d' → u ≡ u' → n ≡ n' → c ≡ c' →
    ◌≡◌ {A = Known} (record { defined = d; used = u; named = n; cursor = c }) (record { defined = d'; used = u'; named = n'; cursor = c' })
known_eq p q r s = cc

-- a test of one operator more
any_last : (f : Op → Bool) (os : List Op) (o : Op) → any f (os ++ (o ∷ [])) ≡ (f o || any f os)
any_last f os o = any_append f os (o ∷ []) ∙ rw or-false (or_comm (any f os) (f o))

pub known_with : (a : Abstract) (o : Op) → known (with a o) ≡ after (known a) o
known_with a o =
    known_eq
    (fun_ext (λ (q : ℕ). rw (any_last (λ (x : Op). member q (defines x)) a.ops o) (or_first (ltb q a.inputs) (member q (defines o)) _)))
    (fun_ext (λ (q : ℕ). any_last (λ (x : Op). member q (reads x)) a.ops o))
    (fun_ext (λ (v : ℕ). any_last (λ (x : Op). member v (names x)) a.ops o))
    (fun_ext (λ (v : ℕ). any_last (λ (x : Op). member v (cursors x)) a.ops o))

-- an operator that is kept is known from then on
pub known_of_kept : {queues variables : ℕ} {seen : Seen} {o : Operator} {r : Result Seen Reason} → Admits queues variables seen o r →
    number_or_zero r ≡ 0 → known_by (result_unwrap_or r seen) ≡ after (known_by seen) (view o)
known_of_kept {seen = seen} {o = o} {r = r} a e =
    a.known ∙ ap (λ (b : Bool). cond b (after (known_by seen) (view o)) (known_by seen)) (eq-eqb (number_or_zero r) 0 e)
