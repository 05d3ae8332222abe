-- One reader after the other, as `?` makes them follow each other: where the first is lost, both are; else the second goes on from there.
-- Assumes nothing.
use mathlib.Core.Path.{ap, ◌∙◌}
use mathlib.Core.List.{List}
use Prim.Native.Nat.{ℕ}
use Rattle.std.specs.Prelude.{Result, Ok, Err}
use Rattle.text_scan.specs.declared.Read.{Read}
use Rattle.text_scan.specs.declared.Lost.{Lost}
use Rattle.text_scan.specs.Reader.{Res, Reader, bind, ◌>>=◌}
use Rattle.text_scan.specs.Reads.{Reads}

module _ {A B C D : Type 0} {view : A → B} {look : C → D} {s : List ℕ} {at : ℕ} {P : Reader B} (F : B → Reader D) where
  pub lost_first : {e : Lost} → Reads view s at P (Err e) → Reads look s at (P >>= F) (Err e)
  lost_first g = record { within = g.within; reads = ap (λ (x : Res B). bind x F) g.reads }

  pub then : {r : Read A} {q : Result (Read C) Lost} → Reads view s at P (Ok r) → Reads look s r.at (F (view r.value)) q → Reads look s at (P >>= F) q
  then g h = record { within = h.within; reads = h.reads ∙ ap (λ (x : Res B). bind x F) g.reads }
