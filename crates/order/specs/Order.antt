-- What demand 3 speaks of: chains of rewritings, feeds after a fresh start, and what a run leaves in the outputs.
use Rattle.std.specs.Prelude.{ℕ, suc, ◌≡◌, Bool, cond, ◌&&◌, List, [], ◌∷◌, eqb, ltb, leb, length}
use Rattle.base_lists.specs.Lists.{all, build}
use Rattle.sheet.specs.declared.Sheet.{Sheet}
use Rattle.sheet.specs.Answer.{accepted, is_accepted}
use Rattle.sheet.specs.Sheet.{view_sheet}
use Rattle.sheet.specs.Check.{check_of}
use Rattle.counts.specs.Calm.{is_calm}
use Rattle.base_bounds.specs.Bounds.{ROOM, FIELDS, QUEUES}
use Rattle.counts.specs.Answers.{worst_of}
use Rattle.run_store.specs.declared.Item.{Item}
use Rattle.run_machine.specs.Machine.{is_output}
use Rattle.run_machine.specs.Numbers.{decode}
use Rattle.run_machine.specs.Calls.{Call, feed_of}
use Rattle.rewriter.specs.Calls.{fuse_of, split_of, reorder_of}

-- an accepted, calm sheet
abbrev pub calm_sheet : Sheet → Bool
calm_sheet t = is_accepted (check_of t) && is_calm (view_sheet t)

-- made by a chain of the rewriter's accepted answers, none or many
pub data Made (s : Sheet) : Sheet → Type 0 where
  as_is : Made s s
  fused : {t : Sheet} → Made s t → (i : ℕ) → (fuse_of t i).answer ≡ accepted → Made s (fuse_of t i).sheet
  splitted : {t : Sheet} → Made s t → (i k : ℕ) → (split_of t i k).answer ≡ accepted → Made s (split_of t i k).sheet
  reordered : {t : Sheet} → Made s t → (i : ℕ) → (reorder_of t i).answer ≡ accepted → Made s (reorder_of t i).sheet

-- a feed: the queue and the item
pub record Feed : Type 0 where
  pub queue : ℕ
  pub item : Item

-- the feeds made one after the other from where a call has left state and store
abbrev pub fed : Sheet → Call → List Feed → Call
fed t c [] = c
fed t c (x ∷ xs) = fed t (feed_of t c.state c.store x.queue x.item) xs

-- each of them accepted
abbrev pub AllTaken : Sheet → Call → List Feed → Type 0
AllTaken t c [] = Unit
AllTaken t c (x ∷ xs) =
    ((feed_of t c.state c.store x.queue x.item).answer ≡ accepted)
    × AllTaken t (feed_of t c.state c.store x.queue x.item) xs

-- the items that the feeds give to a queue, in order, and how many: the numbers that the worst counts are asked with
abbrev pub given : List Feed → ℕ → List Item
given [] q = []
given (x ∷ xs) q = cond (eqb q x.queue) (x.item ∷ given xs q) (given xs q)

abbrev pub numbers_fed : List Feed → List ℕ
numbers_fed xs = build QUEUES (λ (q : ℕ). length (given xs q))

abbrev pub to_inputs : Sheet → List Feed → Bool
to_inputs t xs = all (λ (x : Feed). ltb x.queue t.inputs) xs

-- the worst counts are answered, and at most 64 for every queue
abbrev pub roomy : Sheet → List Feed → Bool
roomy t xs = is_accepted (worst_of t (numbers_fed xs)).answer && all (λ (n : ℕ). leb n ROOM) (worst_of t (numbers_fed xs)).counts

-- an item has as many fields as the program's
abbrev pub wide_feeds : List Feed → Bool
wide_feeds xs = all (λ (x : Feed). eqb (length x.item.f) FIELDS) xs

-- the items of the outputs, by queue number
abbrev pub kept : Bool → List Item → List (List Item) → List (List Item)
kept b x xs = cond b (x ∷ xs) xs

abbrev pub outputs_in : (ℕ → Bool) → List (List Item) → ℕ → List (List Item)
outputs_in out [] q = []
outputs_in out (x ∷ xs) q = kept (out q) x (outputs_in out xs (suc q))

abbrev pub outputs : Sheet → Call → List (List Item)
outputs t c = outputs_in (is_output (view_sheet t)) (decode c.state c.store).queues 0
