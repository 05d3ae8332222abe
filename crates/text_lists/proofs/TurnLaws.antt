-- A list of names, one turn after the other.
-- Assumes nothing.
use Prim.Native.Nat.{ℕ, ◌-◌, ◌<◌}
use mathlib.Core.Path.{◌≡◌, ap, ◌∙◌, sym}
use mathlib.Core.List.{List}
use native.Mathlib.Omega.{arith}
use lib.ListN.{length, drop, length-drop}
use Rattle.std.specs.Prelude.{Result, Ok}
use Rattle.text_scan.specs.declared.Read.{Read}
use Rattle.text_scan.specs.declared.Lost.{Lost}
use Rattle.text_scan.specs.Reader.{Res, bind, Turn, turn, repeat}
use Rattle.text_scan.specs.Reads.{stands, Reads}
use Rattle.text_grammar.specs.Readers.{name_turn}
use Rattle.text_grammar.proofs.ExactText.{name_shrinks, names_turn}
use Rattle.text_lists.specs.declared.KeptNames.{KeptNames}
use Rattle.text_lists.specs.declared.Turn as kept
use Rattle.text_lists.specs.Names.{noted, turned}

module _ (s : List ℕ) (from : ℕ) (n : KeptNames) where
  -- what a turn says is where the list goes on
  pub turn_on : {r : Result (Read kept.Turn) Lost} → Reads turned s from (name_turn noted n) r →
      bind (stands turned s r) (turn (repeat (name_turn noted))) ≡ repeat (name_turn noted) n (drop from s)
  turn_on g = ap (λ (x : Res (Turn KeptNames KeptNames)). bind x (turn (repeat (name_turn noted)))) g.reads ∙ sym (names_turn noted n (drop from s))

  -- and what is left of the text falls
  pub turn_less : {t : Read kept.Turn} → Reads turned s from (name_turn noted n) (Ok t) → length s - t.at < length s - from
  turn_less {t} g =
      let l = name_shrinks noted n (drop from s) (turned t.value) (drop t.at s) (sym g.reads) in
      omega (arith, length-drop from s, length-drop t.at s)
