-- The product's operators and machines as the theory sees them.
use mathlib.Core.Path.{◌≡◌, refl, ap, ◌∙◌, sym}
use Prim.Native.Nat.{ℕ}
use mathlib.Core.List.{List, [], ◌∷◌, map}
use lib.ListN.{get_or}
use lib.IntN.{ℤ, pos}
use Rattle.sheet_step.specs.declared.Func.{Func}
use Rattle.sheet_step.specs.declared.Func.TheVariants.{None, Keep, Add, Copy, Count, Stamp}
use Rattle.sheet_step.specs.declared.Step.{Step}
use Rattle.sheet_operator.specs.Op.{Op, line, latest, double, deal, gather, Abstract}
use Rattle.run_store.specs.declared.Item.{Item}
use Rattle.run_machine.specs.Machine.{Machine}
use Rattle.order_theory.proofs.Model.{State}
use Rattle.order_theory.proofs.Steps.{keep, add, copy, count, stamp}
use Rattle.order_theory.proofs.Equations.{Kind}

abbrev pub TItem : Type 0
TItem = List ℤ

abbrev pub TStep : Type 0
TStep = Rattle.order_theory.proofs.Steps.Step

-- an accepted sheet has no step without a function: what stands for one does not matter
abbrev pub step_by : Func → Step → TStep
step_by None s = copy s.p s.p
step_by Keep s = keep s.p s.low s.high
step_by Add s = add s.p s.low
step_by Copy s = copy s.p s.r
step_by Count s = count s.variable s.p
step_by Stamp s = stamp s.variable s.p

abbrev pub step_as : Step → TStep
step_as s = step_by s.func s

abbrev pub kind_as : Op → Kind
kind_as (line p q ss) = Rattle.order_theory.proofs.Equations.line p q (map step_as ss)
kind_as (latest p v f) = Rattle.order_theory.proofs.Equations.latest p v f
kind_as (double p q r) = Rattle.order_theory.proofs.Equations.double p q r
kind_as (deal c p qs) = Rattle.order_theory.proofs.Equations.deal c p qs
kind_as (gather c q ps) = Rattle.order_theory.proofs.Equations.gather c q ps

abbrev pub kinds_as : Abstract → List Kind
kinds_as a = map kind_as a.ops

abbrev pub item_as : Item → TItem
item_as x = x.f

abbrev pub items_as : List Item → List TItem
items_as xs = map item_as xs

abbrev pub state_as : Machine → State TItem ℤ
state_as m = record { queue = λ (q : ℕ). items_as (get_or m.queues q []); var = λ (k : ℕ). get_or m.vars k (pos 0) }

-- lists of items that the theory cannot tell apart are the same
abbrev pub item_of : TItem → Item
item_of x = record { f = x }

pub items_back : (xs : List Item) → map item_of (items_as xs) ≡ xs
items_back [] = refl
items_back (x ∷ xs) = ap (λ (ys : List Item). x ∷ ys) (items_back xs)

pub same_items : (xs ys : List Item) → items_as xs ≡ items_as ys → xs ≡ ys
same_items xs ys e = sym (items_back xs) ∙ ap (map item_of) e ∙ items_back ys
