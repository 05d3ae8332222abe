-- The pieces of a split line and the new sheet's places, in memory.
-- Assumes nothing.
use mathlib.Core.Path.{◌≡◌, refl, ap, ◌∙◌, sym}
use mathlib.Core.Logic.{⊎_elim}
use mathlib.Core.Bool.{cond}
use mathlib.Core.List.{List, [], ◌∷◌, map}
use Prim.Native.Nat.{ℕ, suc, ◌+◌, ◌*◌, ◌-◌, ◌<◌, ◌≤◌}
use native.Mathlib.Omega.{arith}
use lib.Dec.{leb}
use lib.ListN.{length, get_or, set, length-map, length-append, get_or-eq_default}
use borrow.Author.Tests.{le-leb, lt-leb, lt-ltb, le-ltb}
use Rattle.base_lists.specs.Lists.{build, pad}
use Rattle.base_lists.proofs.Build.{order, up_to, build_length, build_ext, build_all, set_more}
use Rattle.base_lists.proofs.Pad.{pad_length, pad_get_or, pad_as_build}
use Rattle.base_lists.proofs.Places.{get_d_any}
use Rattle.base_lists.proofs.Insert.{inserted, map_inserted, length_inserted, inserted_before, inserted_in, inserted_past, built_at, last_at}
use Rattle.sheet_operator.specs.Op.{Op, line, deal, gather}
use Rattle.sheet_operator.specs.Memory.{PLACES, steps_in, view, memory, no_operator, Held}
use Rattle.sheet_operator.specs.declared.Operator.{Operator}
use Rattle.sheet_operator.proofs.ViewLaws.{memory_view}
use Rattle.base_bounds.specs.Bounds.{OPERATORS}
use Rattle.sheet.specs.declared.Sheet.{Sheet}
use Rattle.sheet.specs.Sheet.{missing, op_at, view_sheet, memory_sheet, HeldSheet}
use Rattle.sheet.proofs.Accepted.{accepted_facts}
use Rattle.sheet.proofs.Placed.{ops_many, ops_at}
use Rattle.sheet.proofs.InMemory.{sheet_eq, operators_back}
use Rattle.rewrite_rules.specs.Rewrite.{at, in_of, out_of, steps_of, parted, pieces}
use Rattle.rewrite_split.specs.Working.{LineIn, Splits}
use Rattle.rewrite_rules.proofs.Lines.{line_view}

-- the places of a line hold its queues and steps, and then none
line_back : (o : Operator) → Held o → LineIn o →
    memory (line (get_or o.ins 0 0) (get_or o.outs 0 0) (steps_in o.count o.steps)) ≡ o
line_back o h l = ap memory (sym (line_view o l.line)) ∙ memory_view o h l.number

-- another line with the same steps differs in its queues alone
abbrev line_with : ℕ → ℕ → Operator → Operator
line_with p q o =
    record { kind = o.kind; count = o.count; variable = o.variable; field = o.field; ins = pad PLACES 0 (p ∷ []); outs = pad PLACES 0 (q ∷ []); steps = o.steps }

pub line_copied : (o : Operator) (p q : ℕ) → Held o → LineIn o → line_with p q o ≡ memory (line p q (steps_in o.count o.steps))
line_copied o p q h l = ap (line_with p q) (sym (line_back o h l))

module _ (o : Operator) (q v k : ℕ) where
  abbrev made : List Operator
  made = map memory (pieces q v k (view o))

  abbrev copy : ℕ → Op
  copy j = line (q + j) (q + k + j) (steps_of (view o))

  abbrev joined : Op
  joined = gather (v + 1) (out_of (view o)) (build k (λ (j : ℕ). q + k + j))

  pub length_made : length made ≡ k + 2
  length_made =
      let a = length-map (pieces q v k (view o)) memory in
      let b = length-append (build k copy) (joined ∷ []) in
      let c = build_length k copy in
      omega arith

  pub piece_first : (j : ℕ) → j ≡ 0 → LineIn o → memory (deal v (get_or o.ins 0 0) (build k (λ (i : ℕ). q + i))) ≡ get_or made j o
  piece_first j e l =
      sym (ap (λ (x : Op). memory (deal v (in_of x) (build k (λ (i : ℕ). q + i)))) (line_view o l.line))
      ∙ ap (λ (n : ℕ). get_or made n o) (sym e)

  pub piece_line : (j : ℕ) → 0 < j → j ≤ k → LineIn o →
      memory (line (q + (j - 1)) (q + k + (j - 1)) (steps_in o.count o.steps)) ≡ get_or made j o
  piece_line j h b l =
      let e : suc (j - 1) ≡ j = omega arith in
      ap (λ (x : Op). memory (line (q + (j - 1)) (q + k + (j - 1)) (steps_of x))) (sym (line_view o l.line))
      ∙ sym (built_at memory k copy joined o (j - 1) (omega arith)) ∙ ap (λ (n : ℕ). get_or made n o) e

  pub piece_last : (j : ℕ) → j ≡ k + 1 → LineIn o →
      memory (gather (v + 1) (get_or o.outs 0 0) (build k (λ (i : ℕ). q + k + i))) ≡ get_or made j o
  piece_last j e l =
      let f : suc k ≡ j = omega arith in
      ap (λ (x : Op). memory (gather (v + 1) (out_of x) (build k (λ (i : ℕ). q + k + i)))) (sym (line_view o l.line))
      ∙ sym (last_at memory k copy joined o) ∙ ap (λ (n : ℕ). get_or made n o) f

  pub piece_past : (j : ℕ) → k + 1 < j → o ≡ get_or made j o
  piece_past j h = sym (get_or-eq_default made o {n = j} (omega (arith, length_made)))

module _ (t : Sheet) (i k : ℕ) (s : Splits t i k) where
  abbrev older : List Operator
  older = map memory (view_sheet t).ops

  abbrev newer : List Operator
  newer = map memory (parted (view_sheet t) i k).ops

  abbrev pieced : Op → List Operator
  pieced o = map memory (pieces t.queues t.variables k o)

  newer_inserted : newer ≡ inserted i (pieced (view (op_at t i))) older
  newer_inserted =
      map_inserted memory i (pieces t.queues t.variables k (at (view_sheet t) i)) (view_sheet t).ops
      ∙ ap (λ (o : Op). inserted i (pieced o) older) (ops_at t i s.below)

  in_older : i < length older
  in_older = omega (arith, length-map (view_sheet t).ops memory, ops_many t, s.below)

  length_newer : length (parted (view_sheet t) i k).ops ≡ t.count + k + 1
  length_newer =
      let o = op_at t i in
      let a = length-map (parted (view_sheet t) i k).ops memory in
      let b = ap (λ (l : List Operator). length l) newer_inserted in
      let c = length_inserted i (pieced (view o)) older in_older in
      let d = length_made o t.queues t.variables k in
      omega (arith, length-map (view_sheet t).ops memory, ops_many t)

  -- the head and the places of the new sheet
  pub parted_made : (n : ℕ) (os : List Operator) → n ≡ t.count + k + 1 → os ≡ pad OPERATORS no_operator newer →
      ◌≡◌ {A = Sheet} (record { inputs = t.inputs; queues = t.queues + 2 * k; variables = t.variables + 2; count = n; operators = os })
      (memory_sheet (parted (view_sheet t) i k))
  parted_made n os e f = sheet_eq refl refl refl (e ∙ sym length_newer) f

  -- a place from i on where a piece comes is made of the line itself
  pub source_line : (m u : ℕ) → u ≡ cond (leb (m - i) (k + 1)) i (m - (k + 1)) → m - i ≤ k + 1 → LineIn (op_at t u)
  source_line m u e l =
      let g : u ≡ i = e ∙ simp (le-leb (m - i) (k + 1) l) in
      rw g (record { number = (accepted_facts t s.sheet).shaped i s.below; line = s.line })

  module _ (held : HeldSheet t) where
    old_at : (p : ℕ) → p < OPERATORS → op_at t p ≡ get_or older p no_operator
    old_at p l =
        ap (λ (os : List Operator). get_or os p missing) (sym (operators_back t s.sheet held))
        ∙ get_d_any (pad OPERATORS no_operator older) p missing no_operator (omega (arith, pad_length OPERATORS no_operator older))
        ∙ pad_get_or OPERATORS no_operator older p l

    abbrev new_at : ℕ → Operator
    new_at p = get_or newer p no_operator

    new_before : (m : ℕ) → m < i → new_at m ≡ op_at t m
    new_before m l =
        ap (λ (os : List Operator). get_or os m no_operator) newer_inserted
        ∙ inserted_before i (pieced (view (op_at t i))) older in_older no_operator m l
        ∙ sym (old_at m (omega (arith, s.below, s.count)))

    -- a piece, and past the pieces an operator that moved up
    new_piece : (j : ℕ) → j ≤ k + 1 → get_or (pieced (view (op_at t i))) j (op_at t i) ≡ new_at (i + j)
    new_piece j l =
        let n = length_made (op_at t i) t.queues t.variables k in
        inserted_in i (pieced (view (op_at t i))) older in_older no_operator (op_at t i) j (omega arith)
        ∙ ap (λ (os : List Operator). get_or os (i + j) no_operator) (sym newer_inserted)

    new_past : (j : ℕ) (x : Operator) → k + 1 < j → i + j < OPERATORS → x ≡ op_at t (i + j - (k + 1)) →
        get_or (pieced (view x)) j x ≡ new_at (i + j)
    new_past j x l b e =
        let n = length_made (op_at t i) t.queues t.variables k in
        let f : i + j - (k + 1) ≡ i + j + 1 - length (pieced (view (op_at t i))) = omega arith in
        sym (piece_past x t.queues t.variables k j l) ∙ e ∙ old_at (i + j - (k + 1)) (omega arith)
        ∙ ap (λ (m : ℕ). get_or older m no_operator) f
        ∙ inserted_past i (pieced (view (op_at t i))) older in_older no_operator j (omega arith)
        ∙ ap (λ (os : List Operator). get_or os (i + j) no_operator) (sym newer_inserted)

    pub new_from : (m u : ℕ) → i ≤ m → m < OPERATORS → u ≡ cond (leb (m - i) (k + 1)) i (m - (k + 1)) →
        get_or (pieced (view (op_at t u))) (m - i) (op_at t u) ≡ new_at m
    new_from m u a b e =
        let f : i + (m - i) ≡ m = omega arith in
        ⊎_elim
        (λ (l : m - i < k + 2).
        let g : u ≡ i = e ∙ simp (le-leb (m - i) (k + 1) (omega arith)) in
        ap (λ (w : ℕ). get_or (pieced (view (op_at t w))) (m - i) (op_at t w)) g ∙ new_piece (m - i) (omega arith) ∙ ap new_at f)
        (λ (l : k + 2 ≤ m - i).
        let g : u ≡ i + (m - i) - (k + 1) = e ∙ (simp (lt-leb (m - i) (k + 1) (omega arith)) (ap (λ (w : ℕ). w - (k + 1)) (sym f))) in
        new_past (m - i) (op_at t u) (omega arith) (omega arith) (ap (op_at t) g) ∙ ap new_at f)
        (order (m - i) (k + 2))

    -- the places below m hold what they are to hold, the others what they held
    abbrev pub filled : ℕ → List Operator
    filled m = build OPERATORS (up_to m new_at (op_at t))

    pub fill_start : t.operators ≡ filled i
    fill_start =
        sym (build_all t.operators missing OPERATORS held.full)
        ∙ build_ext OPERATORS (op_at t) (up_to i new_at (op_at t))
        (λ p _.
        ⊎_elim (λ (l : p < i). sym (simp (lt-ltb p i l) (new_before p l))) (λ (l : i ≤ p). sym (simp (le-ltb p i l) refl)) (order p i))

    pub fill_more : (m : ℕ) (r : List Operator) (x : Operator) → m < OPERATORS → r ≡ filled m → x ≡ new_at m →
        set r m x ≡ filled (m + 1)
    fill_more m r x l e f = rw (e, f) (set_more OPERATORS m new_at (op_at t) missing l)

    pub fill_end : (m : ℕ) (r : List Operator) → OPERATORS ≤ m → r ≡ filled m → r ≡ pad OPERATORS no_operator newer
    fill_end m r l e =
        e ∙ build_ext OPERATORS (up_to m new_at (op_at t)) new_at (λ p b. simp (lt-ltb p m (omega arith)) refl)
        ∙ sym (pad_as_build OPERATORS no_operator newer)
