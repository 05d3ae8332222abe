-- What the shape of an operator in memory says of the queues that it reads and defines.
-- Assumes nothing.
use mathlib.Core.Path.{◌≡◌, ap, ◌∙◌, sym}
use mathlib.Core.List.{List}
use Prim.Native.Nat.{ℕ}
use Rattle.sheet_operator.specs.declared.Operator.{Operator}
use Rattle.sheet_operator.specs.declared.Shape.{Shape}
use Rattle.sheet_operator.specs.Op.{reads, defines}
use Rattle.sheet_operator.specs.Memory.{shape_of, ways, view, Ready}
use Rattle.sheet_operator.proofs.ViewLaws.{reads_view, defines_view}

-- what the laws of the view say, of a shape that a call answered
module _ (o : Operator) (s : Shape) (r : Ready o) (e : s ≡ shape_of o.kind o.count) where
  pub ins_told : {A : Type 0} (f : List ℕ → A) → f (ways s.ins o.ins) ≡ f (reads (view o))
  ins_told f = ap (λ (t : Shape). f (ways t.ins o.ins)) e ∙ ap f (sym (reads_view o r))

  pub outs_told : {A : Type 0} (f : List ℕ → A) → f (ways s.outs o.outs) ≡ f (defines (view o))
  outs_told f = ap (λ (t : Shape). f (ways t.outs o.outs)) e ∙ ap f (sym (defines_view o r))
