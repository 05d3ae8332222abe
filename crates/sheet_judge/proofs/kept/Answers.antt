-- `sheet_judge::kept` meets its contract: each set gets what the operator adds to it.
use mathlib.Core.Path.{◌∙◌}
use mathlib.Core.Bool.{Bool, ◌||◌}
use mathlib.Core.List.{List}
use Prim.Native.Nat.{ℕ}
use Rattle.base_lists.specs.Lists.{member, has}
use Rattle.sheet_judge.proofs.KnownLaws.{known_eq}
use Rattle.sheet_judge.proofs.Shapes.{ins_told, outs_told}
use Rattle.sheet_judge.proofs.kept.Goals as goal

-- the numbers of a list and those of a set
abbrev added : List Bool → List ℕ → ℕ → Bool
added s l k = member k l || has s k

pub returns : goal.returns
returns c =
    let p = c.requires in
    let a = c.args in
    known_eq (c.all_flagged-defined.ensures ∙ outs_told a.o c.shape_of-s.result p.0 c.shape_of-s.ensures (added a.seen.defined))
    (c.all_flagged-used.ensures ∙ ins_told a.o c.shape_of-s.result p.0 c.shape_of-s.ensures (added a.seen.used))
    c.names_flagged-named.ensures
    c.cursor_flagged-cursor.ensures
