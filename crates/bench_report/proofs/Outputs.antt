-- The loop that prints the outputs goes by the table of readers and the counts; what it prints are the lines of the outputs' items.
-- Assumes nothing.
use mathlib.Core.Path.{◌≡◌, refl, ap, ◌∙◌, sym}
use mathlib.Core.Bool.{Bool, true, false, cond, not}
use mathlib.Core.List.{List, [], ◌∷◌, ◌++◌, map}
use Prim.Native.Nat.{ℕ, zero, suc, ◌+◌, ◌*◌, ◌-◌, ◌≤◌, ◌<◌}
use native.Mathlib.Omega.{arith}
use lib.Dec.{eqb}
use lib.ListN.{length, get_or, take, drop}
use lib.IntN.{ℤ}
use borrow.Author.Tests.{not-true, not-false}
use Rattle.base_lists.specs.Lists.{build, chain}
use Rattle.base_bounds.specs.Bounds.{OPERATORS, QUEUES, ROOM}
use Rattle.sheet.specs.declared.Sheet.{Sheet}
use Rattle.sheet.specs.Sheet.{view_sheet}
use Rattle.base_lists.proofs.Chains.{chain_snoc, chain_append}
use Rattle.base_words.specs.Text.{PutsText}
use Rattle.bench_lines.specs.Lines.{item_line, queue_lines, LINE}
use Rattle.bench_lines.proofs.Pieces.{Piece, piece_of, pieces_none, pieces_more, pieces_all}
use Rattle.base_words.proofs.Putting.{puts_none}
use Rattle.run_store.specs.Store.{PART, STORE, part}
use Rattle.run_store.specs.Queues.{items_of}
use Rattle.run_store.specs.declared.Item.{Item}
use Rattle.run_machine.specs.declared.State.{State}
use Rattle.run_machine.specs.Machine.{is_output}
use Rattle.run_machine.specs.Numbers.{decode}
use Rattle.run_machine.specs.Readers.{readers_of}
use Rattle.run_machine.specs.Working.{Stands}
use Rattle.sheet.proofs.Accepted.{ranges_of_accepted}
use Rattle.run_machine.proofs.Good.{decoded_at, good_exactly, tested_of_good}
use Rattle.run_calls.proofs.Taking.{output_by_table}
use Rattle.bench_trial.specs.Trial.{outputs_at, outputs_of}
use Rattle.bench_report.specs.Print.{item_lines, lines_if}

-- ---- chains

module _ {A B : Type 0} where
  chain_map : {D : Type 0} (f : D → List B) (g : A → D) (l : List A) → chain f (map g l) ≡ chain (λ (x : A). f (g x)) l
  chain_map f g [] = refl
  chain_map f g (x ∷ l) = ap (λ (r : List B). f (g x) ++ r) (chain_map f g l)

  pub chain_chain : {D : Type 0} (f : D → List B) (g : A → List D) (l : List A) → chain f (chain g l) ≡ chain (λ (x : A). chain f (g x)) l
  chain_chain f g [] = refl
  chain_chain f g (x ∷ l) = chain_append f (g x) (chain g l) ∙ ap (λ (r : List B). chain f (g x) ++ r) (chain_chain f g l)

  chain_ext : (n : ℕ) (f g : A → List B) (h : ℕ → A) → ((k : ℕ) → k < n → f (h k) ≡ g (h k)) → chain f (build n h) ≡ chain g (build n h)
  chain_ext zero f g h e = refl
  chain_ext (suc n) f g h e =
      ap (λ (r : List B). r ++ chain f (build n (λ (k : ℕ). h (suc k)))) (e 0 (omega arith))
      ∙ ap (λ (r : List B). g (h 0) ++ r) (chain_ext n f g (λ (k : ℕ). h (suc k)) (λ k l. e (suc k) (omega arith)))

-- ---- one queue

pub no_lines : (b : Bool) (q n : ℕ) (store : List ℤ) (s : List ℕ) (at : ℕ) → not b ≡ true →
    PutsText (lines_if b q n store) s at s at × (at ≤ at + LINE * ROOM)
no_lines b q n store s at h = rw (not-true b h) (puts_none s at, omega arith)

part_of : (store : List ℤ) (q : ℕ) → take (PART * q + PART - PART * q) (drop (PART * q) store) ≡ part store q
unfolding part
part_of store q = let e : PART * q + PART - PART * q ≡ PART = omega arith in ap (λ (k : ℕ). take k (drop (PART * q) store)) e

pub some_lines : (b : Bool) (q n : ℕ) (store : List ℤ) (s : List ℕ) (at : ℕ) (t : List ℕ) (end : ℕ) → not b ≡ false → n ≤ ROOM →
    PutsText (queue_lines q (items_of n (take (PART * q + PART - PART * q) (drop (PART * q) store)))) s at t end × (end ≤ at + LINE * n) →
    PutsText (lines_if b q n store) s at t end × (end ≤ at + LINE * ROOM)
some_lines b q n store s at t end h l p =
    (rw (not-false b h, sym (part_of store q)) p.0, omega (arith, p.1))

-- ---- the loop

abbrev pub lines_at : List ℕ → List ℕ → List ℤ → ℕ → List ℕ
lines_at rs cs s q = lines_if (eqb (get_or rs q OPERATORS) OPERATORS) q (get_or cs q 0) s

abbrev pub lines_to : List ℕ → List ℕ → List ℤ → ℕ → List ℕ
lines_to rs cs s n = chain (lines_at rs cs s) (build n (λ (q : ℕ). q))

-- the first q queues are printed
abbrev pub Printing : List ℕ → ℕ → List ℤ → List ℕ → List ℕ → ℕ → List ℕ → ℕ → ℕ → Type 0
Printing s₀ at store rs cs n s end q = (q ≤ n) × Piece (LINE * ROOM * q) (lines_to rs cs store q) s₀ at s end

pub printing_starts : (s : List ℕ) (at : ℕ) (store : List ℤ) (rs cs : List ℕ) (n : ℕ) → Printing s at store rs cs n s at 0
printing_starts s at store rs cs n = (omega arith, pieces_none (LINE * ROOM) s at)

pub printing_goes_on : (s₀ : List ℕ) (at : ℕ) (store : List ℤ) (rs cs : List ℕ) (n : ℕ) (s : List ℕ) (end q : ℕ) (t : List ℕ) (e i : ℕ) →
    Printing s₀ at store rs cs n s end q → q < n → i ≡ get_or rs q OPERATORS →
    PutsText (lines_if (eqb i OPERATORS) q (get_or cs q 0) store) s end t e × (e ≤ end + LINE * ROOM) → Printing s₀ at store rs cs n t e (q + 1)
printing_goes_on s₀ at store rs cs n s end q t e i p l h u = (
  omega arith,
  pieces_more (LINE * ROOM) q (lines_to rs cs store (q + 1)) p.1 (piece_of u)
      (chain_snoc (lines_at rs cs store) q (λ (k : ℕ). k)
      ∙ ap (λ (k : ℕ). lines_to rs cs store q ++ lines_if (eqb k OPERATORS) q (get_or cs q 0) store) (sym h)),
)

-- ---- what it comes to

pub lines_by : (b : Bool) (q : ℕ) (xs : List Item) → item_lines (cond b (map (λ (x : Item). (q, x)) xs) []) ≡ cond b (queue_lines q xs) []
lines_by true q xs = chain_map (λ (x : ℕ × Item). item_line x.0 x.1.f) (λ (x : Item). (q, x)) xs
lines_by false q xs = refl

module _ (t : Sheet) (st : State) (s : List ℤ) (h : Stands t st s) where
  lines_of : (rs : List ℕ) → rs ≡ readers_of (view_sheet t).ops → (q : ℕ) → q < t.queues →
      lines_at rs st.counts s q ≡ item_lines (outputs_at (view_sheet t) (decode st s) q)
  unfolding outputs_at
  lines_of rs e q l =
      ap (λ (b : Bool). lines_if b q (get_or st.counts q 0) s) (output_by_table t h.sheet q (get_or rs q OPERATORS) rs e refl l)
      ∙ ap (λ (xs : List Item). cond (is_output (view_sheet t) q) (queue_lines q xs) []) (sym (decoded_at st s q))
      ∙ sym (lines_by (is_output (view_sheet t) q) q (get_or (decode st s).queues q []))

  lines_all : (rs : List ℕ) → rs ≡ readers_of (view_sheet t).ops →
      lines_to rs st.counts s t.queues ≡ item_lines (outputs_of (view_sheet t) (decode st s))
  lines_all rs e =
      chain_ext t.queues (lines_at rs st.counts s) (λ (q : ℕ). item_lines (outputs_at (view_sheet t) (decode st s) q)) (λ (k : ℕ). k)
      (lines_of rs e)
      ∙ sym (chain_chain (λ (x : ℕ × Item). item_line x.0 x.1.f) (outputs_at (view_sheet t) (decode st s))
      (build t.queues (λ (k : ℕ). k)))

  pub printing_queues : t.queues ≤ QUEUES
  printing_queues = (ranges_of_accepted t h.sheet).queues

  pub printing_store : length s ≡ STORE
  printing_store = (tested_of_good (view_sheet t) st s h.numbers).size

  pub printing_room : length st.counts ≡ QUEUES → (q : ℕ) → get_or st.counts q 0 ≤ ROOM
  printing_room n q = ((good_exactly (view_sheet t) st s n).0 h.numbers).few q

  pub printing_ends : (rs : List ℕ) → rs ≡ readers_of (view_sheet t).ops → (s₀ : List ℕ) (at : ℕ) (u : List ℕ) (end q : ℕ) →
      Printing s₀ at s rs st.counts t.queues u end q → t.queues ≤ q →
      PutsText (item_lines (outputs_of (view_sheet t) (decode st s))) s₀ at u end × (end ≤ at + LINE * ROOM * QUEUES)
  printing_ends rs e s₀ at u end q p l =
      let i : q ≡ t.queues = omega arith in
      let r = pieces_all (LINE * ROOM) q t.queues i (ap (lines_to rs st.counts s) i ∙ lines_all rs e) p.1 in
      (r.0, omega (arith, r.1, printing_queues))
