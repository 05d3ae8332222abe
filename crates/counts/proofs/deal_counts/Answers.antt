-- `counts::deal_counts` meets its contract: what is left to deal from here is what was to deal at the start.
use mathlib.Core.Path.{◌≡◌, ap, ◌∙◌, sym}
use mathlib.Core.List.{List}
use Prim.Native.Nat.{ℕ, ◌+◌, ◌<◌, ◌≤◌}
use native.Mathlib.Omega.{arith}
use lib.ListN.{get_or, set}
use Rattle.base_lists.proofs.Rest.{rest, rest_all, rest_none}
use Rattle.sheet_operator.specs.Memory.{ways}
use Rattle.counts.specs.Worst.{deal_worst, dealt}
use Rattle.counts.proofs.Turns.{dealt_turn}
use Rattle.counts.proofs.deal_counts.Goals as goal

abbrev Left : List ℕ → List ℕ → ℕ → ℕ → ℕ → List ℕ → Type 0
Left w r n k j qs = dealt r n k j (rest k j (λ (x : ℕ). get_or qs x 0)) ≡ dealt w n k 0 (ways k qs)

start : (w : List ℕ) (n k : ℕ) (qs : List ℕ) → Left w w n k 0 qs
start w n k qs = ap (dealt w n k 0) (rest_all k (λ (x : ℕ). get_or qs x 0))

turn : (w r next : List ℕ) (n k j m : ℕ) (qs : List ℕ) → j < k → m ≡ deal_worst n k j → next ≡ set r (get_or qs j 0) m → Left w r n k j qs →
    Left w next n k (j + 1) qs
turn w r next n k j m qs h e d l = rw (d, e) (dealt_turn r n k j (λ (x : ℕ). get_or qs x 0) h ∙ l)

end : (w r : List ℕ) (n k j : ℕ) (qs : List ℕ) → k ≤ j → Left w r n k j qs → r ≡ dealt w n k 0 (ways k qs)
end w r n k j qs h l = sym (ap (dealt r n k j) (rest_none k (λ (x : ℕ). get_or qs x 0) j h)) ∙ l

pub loop-j-init : goal.loop-j-init
loop-j-init c = (omega arith, start c.args.w c.args.n c.args.k c.args.qs)

pub loop-j-preserved : goal.loop-j-preserved
loop-j-preserved c =
    let a = c.args in (
      omega arith,
      turn a.w c.loop-j.r c.counted-next.result a.n a.k c.loop-j.j c.deal_worst-m.result a.qs
          c.loop-j-test.true c.deal_worst-m.ensures c.counted-next.ensures c.loop-j.invariant.1,
    )

pub returns : goal.returns
returns c =
    let a = c.args in
    end a.w c.loop-j.r a.n a.k c.loop-j.j a.qs c.loop-j-test.false c.loop-j.invariant.1
