-- Rewritings chain: what fuse, split and reorder answer is an accepted, calm sheet again, and stands for the rewritten one.
-- Assumes nothing.
use mathlib.Core.Path.{◌≡◌, refl, ap, sym, ◌∙◌, subst}
use mathlib.Core.Bool.{Bool, true, false, cond, ◌&&◌}
use mathlib.Core.List.{◌++◌}
use mathlib.Core.Option.{some, none}
use Prim.Native.Nat.{ℕ, ◌+◌}
use lib.Dec.{ltb, leb}
use lib.ListN.{length}
use borrow.Author.Tests.{ltb-true, leb-true}
use Rattle.base_lists.specs.Lists.{all}
use Rattle.base_lists.proofs.Build.{never}
use Rattle.base_lists.proofs.Tests.{both}
use Rattle.sheet_step.specs.declared.Step.{Step}
use Rattle.sheet_operator.specs.Op.{Abstract}
use Rattle.sheet_operator.specs.Memory.{PLACES}
use Rattle.sheet.specs.declared.Sheet.{Sheet}
use Rattle.sheet.specs.Answer.{Paper, accepted, refused, is_accepted}
use Rattle.sheet.specs.Sheet.{view_sheet, memory_sheet}
use Rattle.sheet.specs.Check.{check_of}
use Rattle.counts.specs.Calm.{is_calm}
use Rattle.rewrite_rules.specs.Rewrite.{Remade, refuse, rewritten, is_line, at, steps_of, next_of, to_line, touches_none, writes_some, leaves, room_to_split, fused}
use Rattle.rewrite_rules.specs.Rewrite.{fuse, parted, split, exchanged, reorder}
use Rattle.rewrite_rules.specs.Answers.{Rewriting, not_rewritten, answering}
use Rattle.rewriter.specs.Calls.{if_calm, fuse_of, split_of, reorder_of}
use Rattle.order.proofs.GoodSheets.{GoodSheet, Next}
use Rattle.order.proofs.CalmLink.{good_of_accepted}
use Rattle.order.proofs.GoodAccepted.{in_memory}
use Rattle.order.proofs.TwoLines.{two_lines}
use Rattle.order.proofs.ReorderLink.{reorder_next}
use Rattle.order.proofs.SplitLink.{split_next}
use Rattle.order.proofs.FuseLink.{fuse_next}

-- an accepted answer comes from an accepted, calm sheet and a rewriting that is not refused
record Opened (p : Paper) (calm : Bool) (r : Remade) (c : Rewriting) : Type 0 where
  accepts : p ≡ accepted
  calms : calm ≡ true
  result : Abstract
  gives : r ≡ rewritten result
  sheet : c.sheet ≡ memory_sheet result

abbrev stood : Paper → Bool → Paper
stood p calm = cond (is_accepted p) (cond calm accepted (refused 13)) p

abbrev answered : Paper → Bool → Remade → Rewriting
answered p calm r = cond (is_accepted (stood p calm)) (answering r) (not_rewritten (stood p calm))

opened : (p : Paper) (calm : Bool) (r : Remade) → (answered p calm r).answer ≡ accepted → Opened p calm r (answered p calm r)
opened (some x) calm r h = never (ap is_accepted h)
opened none false r h = never (ap is_accepted h)
opened none true (refuse k) h = never (ap is_accepted h)
opened none true (rewritten b) h = record { accepts = refl; calms = refl; result = b; gives = refl; sheet = refl }

-- a test before a rewriting
abbrev is_rewritten : Remade → Bool
is_rewritten (refuse k) = false
is_rewritten (rewritten b) = true

abbrev result_of : Abstract → Remade → Abstract
result_of d (refuse k) = d
result_of d (rewritten b) = b

past : (t : Bool) (r : Remade) (k : ℕ) (b : Abstract) → cond t r (refuse k) ≡ rewritten b → (t ≡ true) × (r ≡ rewritten b)
past true r k b h = (refl, h)
past false r k b h = never (ap is_rewritten h)

same_result : (a b : Abstract) → rewritten a ≡ rewritten b → b ≡ a
same_result a b h = sym (ap (result_of a) h)

-- what a call has made: the rewritten sheet, in memory
pub record Rewrote (t : Sheet) (b : Abstract) (u : Sheet) : Type 0 where
  pub next : Next (view_sheet t) b
  pub sheet : u ≡ memory_sheet b

rewrote : (t : Sheet) (r : Remade) (b : Abstract) (c : Rewriting) → c ≡ if_calm t r → c.answer ≡ accepted →
    (GoodSheet (view_sheet t) → (d : Abstract) → r ≡ rewritten d → (d ≡ b) × Next (view_sheet t) b) → Rewrote t b c.sheet
rewrote t r b c e h f =
    let o = opened (check_of t) (is_calm (view_sheet t)) r (sym (ap (λ (x : Rewriting). x.answer) e) ∙ h) in
    let n = f (good_of_accepted t o.accepts o.calms) o.result o.gives in
    record { next = n.1; sheet = ap (λ (x : Rewriting). x.sheet) e ∙ o.sheet ∙ ap memory_sheet n.0 }

pub fuse_rewrote : (t : Sheet) (i : ℕ) → (fuse_of t i).answer ≡ accepted →
    Rewrote t (fused (view_sheet t) i (next_of (view_sheet t) i)) (fuse_of t i).sheet
unfolding fuse_of fuse
fuse_rewrote t i h =
    let a = view_sheet t in
    let j = next_of a i in
    rewrote t (fuse a i) (fused a i j) (fuse_of t i) refl h
    (λ g d e.
    let x = past (ltb i (length a.ops)) _ 14 d e in
    let y = past (is_line (at a i) && to_line a i) _ 15 d x.1 in
    let z = past (leb (length (steps_of (at a i)) + length (steps_of (at a j))) PLACES) _ 16 d y.1 in
    let l = both (is_line (at a i)) (to_line a i) y.0 in (
      same_result (fused a i j) d z.1,
      fuse_next a i g (two_lines a g i (ltb-true i (length a.ops) x.0) l.0 l.1) (leb-true _ PLACES z.0),
    ))

pub reorder_rewrote : (t : Sheet) (i : ℕ) → (reorder_of t i).answer ≡ accepted →
    Rewrote t (exchanged (view_sheet t) i (next_of (view_sheet t) i)) (reorder_of t i).sheet
unfolding reorder_of reorder
reorder_rewrote t i h =
    let a = view_sheet t in
    let j = next_of a i in
    let ss = steps_of (at a i) in
    let ts = steps_of (at a j) in
    rewrote t (reorder a i) (exchanged a i j) (reorder_of t i) refl h
    (λ g d e.
    let x = past (ltb i (length a.ops)) _ 14 d e in
    let y = past (is_line (at a i) && to_line a i) _ 15 d x.1 in
    let z = past (all touches_none (ss ++ ts) && (leaves ss ts && leaves ts ss)) _ 17 d y.1 in
    let l = both (is_line (at a i)) (to_line a i) y.0 in
    let m = both (all touches_none (ss ++ ts)) (leaves ss ts && leaves ts ss) z.0 in
    let n = both (leaves ss ts) (leaves ts ss) m.1 in (
      same_result (exchanged a i j) d z.1,
      reorder_next a i g (two_lines a g i (ltb-true i (length a.ops) x.0) l.0 l.1) m.0 n.0 n.1,
    ))

pub split_rewrote : (t : Sheet) (i k : ℕ) → (split_of t i k).answer ≡ accepted → Rewrote t (parted (view_sheet t) i k) (split_of t i k).sheet
unfolding split_of split
split_rewrote t i k h =
    let a = view_sheet t in
    rewrote t (split a i k) (parted a i k) (split_of t i k) refl h
    (λ g d e.
    let x = past (ltb i (length a.ops) && (leb 2 k && leb k PLACES)) _ 14 d e in
    let y = past (is_line (at a i)) _ 15 d x.1 in
    let z = past (room_to_split a k) _ 16 d y.1 in
    let w = past (all (λ (s : Step). touches_none s && writes_some s) (steps_of (at a i))) _ 17 d z.1 in
    let l = both (ltb i (length a.ops)) (leb 2 k && leb k PLACES) x.0 in
    let m = both (leb 2 k) (leb k PLACES) l.1 in (
      same_result (parted a i k) d w.1,
      split_next a i k g (ltb-true i (length a.ops) l.0) y.0 (leb-true 2 k m.0) (leb-true k PLACES m.1) z.0 w.0,
    ))

-- so what was made is accepted and calm again, and stands for the rewritten sheet
again : (t : Sheet) (b : Abstract) (u : Sheet) → Rewrote t b u → (check_of u ≡ accepted) × (is_calm (view_sheet u) ≡ true) × (view_sheet u ≡ b)
again t b u r =
    let m = in_memory b r.next.good in
    subst (λ (x : Sheet). (check_of x ≡ accepted) × (is_calm (view_sheet x) ≡ true) × (view_sheet x ≡ b)) (sym r.sheet) (m.accepted, m.calm, m.back)

pub fuse_again : (t : Sheet) (i : ℕ) → (fuse_of t i).answer ≡ accepted →
    (check_of (fuse_of t i).sheet ≡ accepted) × (is_calm (view_sheet (fuse_of t i).sheet) ≡ true)
    × (view_sheet (fuse_of t i).sheet ≡ fused (view_sheet t) i (next_of (view_sheet t) i))
fuse_again t i h = again t (fused (view_sheet t) i (next_of (view_sheet t) i)) (fuse_of t i).sheet (fuse_rewrote t i h)

pub split_again : (t : Sheet) (i k : ℕ) → (split_of t i k).answer ≡ accepted →
    (check_of (split_of t i k).sheet ≡ accepted) × (is_calm (view_sheet (split_of t i k).sheet) ≡ true)
    × (view_sheet (split_of t i k).sheet ≡ parted (view_sheet t) i k)
split_again t i k h = again t (parted (view_sheet t) i k) (split_of t i k).sheet (split_rewrote t i k h)

pub reorder_again : (t : Sheet) (i : ℕ) → (reorder_of t i).answer ≡ accepted →
    (check_of (reorder_of t i).sheet ≡ accepted) × (is_calm (view_sheet (reorder_of t i).sheet) ≡ true)
    × (view_sheet (reorder_of t i).sheet ≡ exchanged (view_sheet t) i (next_of (view_sheet t) i))
reorder_again t i h = again t (exchanged (view_sheet t) i (next_of (view_sheet t) i)) (reorder_of t i).sheet (reorder_rewrote t i h)
