-- What the rewriter makes of a calm sheet is what the theory makes of it, and is calm again.
-- Assumes nothing.
use mathlib.Core.Path.{◌≡◌, refl, ap, sym, ◌∙◌, subst}
use mathlib.Core.Bool.{true}
use Rattle.base_lists.proofs.Tests.{both_of}
use Rattle.sheet_operator.specs.Op.{Abstract}
use Rattle.sheet.specs.declared.Sheet.{Sheet}
use Rattle.sheet.specs.Answer.{is_accepted}
use Rattle.sheet.specs.Sheet.{view_sheet, memory_sheet}
use Rattle.sheet.specs.Check.{check_of}
use Rattle.counts.specs.Calm.{is_calm}
use Rattle.rewriter.specs.Calls.{fuse_of, split_of, reorder_of}
use Rattle.order.specs.Order.{calm_sheet, Made, as_is, fused, splitted, reordered}
use Rattle.order.proofs.Model.{kinds_as}
use Rattle.order.proofs.GoodAccepted.{in_memory}
use Rattle.order.proofs.Again.{Rewrote, fuse_rewrote, split_rewrote, reorder_rewrote}

pub record MadeAs (s t : Sheet) : Type 0 where
  pub made :
      Rattle.order_theory.proofs.Final.Made s.inputs s.queues s.variables (kinds_as (view_sheet s)) t.queues t.variables
      (kinds_as (view_sheet t))
  pub calm : calm_sheet t ≡ true
  pub inputs : t.inputs ≡ s.inputs

-- one rewriting more
made_more : (s t : Sheet) (b : Abstract) (u : Sheet) → MadeAs s t → Rewrote t b u → MadeAs s u
made_more s t b u m r =
    let i = in_memory b r.next.good in
    subst (MadeAs s) (sym r.sheet)
    (record {
      made =
          subst
          (λ (x : Abstract).
          Rattle.order_theory.proofs.Final.Made s.inputs s.queues s.variables (kinds_as (view_sheet s)) b.queues b.variables (kinds_as x))
          (sym i.back) (r.next.made m.made);
      calm = both_of (is_accepted (check_of (memory_sheet b))) (is_calm (view_sheet (memory_sheet b))) (ap is_accepted i.accepted) i.calm;
      inputs = r.next.inputs ∙ m.inputs;
    })

pub made_link : (s : Sheet) {t : Sheet} → calm_sheet s ≡ true → Made s t → MadeAs s t
made_link s h as_is = record { made = Rattle.order_theory.proofs.Final.as_is; calm = h; inputs = refl }
made_link s h (fused {t} m i e) = made_more s t _ (fuse_of t i).sheet (made_link s h m) (fuse_rewrote t i e)
made_link s h (splitted {t} m i k e) = made_more s t _ (split_of t i k).sheet (made_link s h m) (split_rewrote t i k e)
made_link s h (reordered {t} m i e) = made_more s t _ (reorder_of t i).sheet (made_link s h m) (reorder_rewrote t i e)
