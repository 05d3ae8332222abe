-- What the number 0 of an operator in memory says, what its view reads and defines by the shape of its kind, and that view and memory are each other's inverse.
-- Assumes nothing.
use mathlib.Core.Path.{◌≡◌, refl, ap, sym, ◌∙◌}
use mathlib.Core.Logic.{⊎_elim}
use mathlib.Core.List.{List, [], ◌∷◌}
use mathlib.Core.Bool.{Bool, true, false, cond, ◌||◌, and-eq-true_iff}
use Prim.Native.Nat.{ℕ, ◌<◌, ◌≤◌}
use native.Mathlib.Omega.{arith}
use lib.Dec.{eqb, ltb}
use lib.ListN.{length, get_or}
use borrow.Author.Tests.{leb-true, eqb-true, lt-ltb, le-ltb, le-leb, eq-eqb}
use Rattle.base_lists.specs.Lists.{build, all}
use Rattle.base_lists.proofs.Build.{never, never', order, build_length}
use Rattle.base_lists.proofs.Tests.{both, both_of, all_build, all_build_of}
use Rattle.base_lists.proofs.Pad.{pad_build, pad_back, pad_past}
use Rattle.sheet_step.specs.Step.{no_step, blank}
use Rattle.sheet_step.specs.declared.Step.{Step}
use Rattle.sheet_step.proofs.Blank.{blank_no_step, blank_is}
use Rattle.sheet_operator.specs.declared.Kind.{Kind}
use Rattle.sheet_operator.specs.declared.Kind.TheVariants.{Empty, Line, Latest, Double, Deal, Gather}
use Rattle.sheet_operator.specs.declared.Operator.{Operator}
use Rattle.sheet_operator.specs.declared.Shape.{Shape}
use Rattle.sheet_operator.specs.Op.{Op, line, latest, double, deal, gather, reads, defines}
use Rattle.sheet_operator.specs.Memory.{PLACES, shape_of, tidy_as, tidy, is_empty, memory_number, vacant, ways, steps_in, view_as, view, placed, memory}
use Rattle.sheet_operator.specs.Memory.{no_operator}
use Rattle.sheet_operator.specs.Memory.{Ready, Held}

number_zero : (e t : Bool) → ◌≡◌ {A = ℕ} (cond e 2 (cond t 0 1)) 0 → (t ≡ true) × (e ≡ false)
number_zero true t h = absurd (omega arith)
number_zero false true h = (refl, refl)
number_zero false false h = absurd (omega arith)

pub tidy_of_number : (o : Operator) → memory_number o ≡ 0 → (tidy o ≡ true) × (is_empty o.kind ≡ false)
unfolding memory_number
tidy_of_number o h = number_zero (is_empty o.kind) (tidy o) h

-- no kind has a count above the places
most_small : (k : Kind) (n : ℕ) → (shape_of k n).most ≤ PLACES
most_small Empty n = omega arith
most_small Line n = omega arith
most_small Latest n = omega arith
most_small Double n = omega arith
most_small Deal n = omega arith
most_small Gather n = omega arith

-- what a tidy operator keeps to, at the shape of its kind
pub record Tidy (s : Shape) (o : Operator) : Type 0 where
  pub least : s.least ≤ o.count
  pub most : o.count ≤ s.most
  pub ins : (k : ℕ) → s.ins ≤ k → k < PLACES → get_or o.ins k 0 ≡ 0
  pub outs : (k : ℕ) → s.outs ≤ k → k < PLACES → get_or o.outs k 0 ≡ 0
  pub steps : (k : ℕ) → s.steps ≤ k → k < PLACES → blank (get_or o.steps k no_step) ≡ true
  pub variable : s.variable ≡ false → o.variable ≡ 0
  pub field : s.field ≡ false → o.field ≡ 0

-- a test of every place, at one that is not used
past_at : (f : ℕ → Bool) (n : ℕ) → all (λ (k : ℕ). ltb k n || f k) (build PLACES (λ (k : ℕ). k)) ≡ true →
    (k : ℕ) → n ≤ k → k < PLACES → f k ≡ true
past_at f n h k l b =
    simp (le-ltb k n l) at (all_build (λ (j : ℕ). ltb j n || f j) PLACES (λ (j : ℕ). j) h k b)

unused_zero : (u : Bool) (x : ℕ) → (u || eqb x 0) ≡ true → u ≡ false → x ≡ 0
unused_zero u x h e = eqb-true x 0 (rw e at h)

pub tidy_parts : (s : Shape) (o : Operator) → tidy_as s o ≡ true → Tidy s o
unfolding tidy_as
tidy_parts s o h =
    let t1 = (and-eq-true_iff _ _).0 h in
    let t2 = (and-eq-true_iff _ _).0 t1.1 in
    let t3 = (and-eq-true_iff _ _).0 t2.1 in
    let t4 = (and-eq-true_iff _ _).0 t3.1 in
    let t5 = (and-eq-true_iff _ _).0 t4.1 in
    let t6 = (and-eq-true_iff _ _).0 t5.1 in
    record {
      least = leb-true s.least o.count t1.0;
      most = leb-true o.count s.most t2.0;
      ins = λ k l b. eqb-true (get_or o.ins k 0) 0 (past_at (λ (k : ℕ). eqb (get_or o.ins k 0) 0) s.ins t3.0 k l b);
      outs = λ k l b. eqb-true (get_or o.outs k 0) 0 (past_at (λ (k : ℕ). eqb (get_or o.outs k 0) 0) s.outs t4.0 k l b);
      steps = past_at (λ (k : ℕ). blank (get_or o.steps k no_step)) s.steps t5.0;
      variable = unused_zero s.variable o.variable t6.0;
      field = unused_zero s.field o.field t6.1;
    }

-- and the other way
past_all : (f : ℕ → Bool) (n : ℕ) → ((k : ℕ) → n ≤ k → k < PLACES → f k ≡ true) → all (λ (k : ℕ). ltb k n || f k) (build PLACES (λ (k : ℕ). k)) ≡ true
past_all f n h =
    all_build_of (λ (k : ℕ). ltb k n || f k) PLACES (λ (k : ℕ). k)
    (λ k b. ⊎_elim (λ (l : k < n). rw (lt-ltb k n l)) (λ (l : n ≤ k). rw (le-ltb k n l) (h k l b)) (order k n))

zero_unused : (u : Bool) (x : ℕ) → (u ≡ false → x ≡ 0) → (u || eqb x 0) ≡ true
zero_unused true x h = refl
zero_unused false x h = eq-eqb x 0 (h refl)

pub tidy_of_parts : (s : Shape) (o : Operator) → Tidy s o → tidy_as s o ≡ true
unfolding tidy_as
tidy_of_parts s o t =
    both_of _ _ (le-leb s.least o.count t.least) (both_of _ _ (le-leb o.count s.most t.most)
    (both_of _ _ (past_all (λ (k : ℕ). eqb (get_or o.ins k 0) 0) s.ins (λ k l b. eq-eqb (get_or o.ins k 0) 0 (t.ins k l b)))
    (both_of _ _ (past_all (λ (k : ℕ). eqb (get_or o.outs k 0) 0) s.outs (λ k l b. eq-eqb (get_or o.outs k 0) 0 (t.outs k l b)))
    (both_of _ _ (past_all (λ (k : ℕ). blank (get_or o.steps k no_step)) s.steps t.steps)
    (both_of _ _ (zero_unused s.variable o.variable t.variable) (zero_unused s.field o.field t.field))))))

pub ready_of_number : (o : Operator) → memory_number o ≡ 0 → Ready o
ready_of_number o h =
    let t = tidy_of_number o h in
    let s = shape_of o.kind o.count in
    record { small = omega (arith, (tidy_parts s o t.0).most, most_small o.kind o.count); some = t.1 }

-- the queues of a view are those that the shape of its kind counts
reads_as : (k : Kind) (o : Operator) → is_empty k ≡ false → reads (view_as k o) ≡ ways (shape_of k o.count).ins o.ins
reads_as Empty o h = never' h
reads_as Line o h = refl
reads_as Latest o h = refl
reads_as Double o h = refl
reads_as Deal o h = refl
reads_as Gather o h = refl

pub reads_view : (o : Operator) → Ready o → reads (view o) ≡ ways (shape_of o.kind o.count).ins o.ins
reads_view o r = reads_as o.kind o r.some

defines_as : (k : Kind) (o : Operator) → is_empty k ≡ false → defines (view_as k o) ≡ ways (shape_of k o.count).outs o.outs
defines_as Empty o h = never' h
defines_as Line o h = refl
defines_as Latest o h = refl
defines_as Double o h = refl
defines_as Deal o h = refl
defines_as Gather o h = refl

pub defines_view : (o : Operator) → Ready o → defines (view o) ≡ ways (shape_of o.kind o.count).outs o.outs
defines_view o r = defines_as o.kind o r.some

shape_as : (k : Kind) (n : ℕ) → n ≤ PLACES → ((shape_of k n).ins ≤ PLACES) × ((shape_of k n).outs ≤ PLACES) × ((shape_of k n).steps ≤ PLACES)
shape_as Empty n h = omega arith
shape_as Line n h = omega arith
shape_as Latest n h = omega arith
shape_as Double n h = omega arith
shape_as Deal n h = omega arith
shape_as Gather n h = omega arith

pub shape_small : (o : Operator) → Ready o →
    ((shape_of o.kind o.count).ins ≤ PLACES) × ((shape_of o.kind o.count).outs ≤ PLACES) × ((shape_of o.kind o.count).steps ≤ PLACES)
shape_small o r = shape_as o.kind o.count r.small

-- the sizes of an operator that a sheet can hold: 1 to 4 steps, 2 to 4 ways
abbrev pub Small : Op → Type 0
Small (line p q ss) = (1 ≤ length ss) × (length ss ≤ PLACES)
Small (latest p v f) = Unit {0}
Small (double p q r) = Unit {0}
Small (deal c p qs) = (2 ≤ length qs) × (length qs ≤ PLACES)
Small (gather c q ps) = (2 ≤ length ps) × (length ps ≤ PLACES)

pub view_memory : (o : Op) → Small o → view (memory o) ≡ o
view_memory (line p q ss) h = ap (λ (l : List Step). line p q l) (pad_build (length ss) PLACES no_step ss refl h.1)
view_memory (latest p v f) h = refl
view_memory (double p q r) h = refl
view_memory (deal c p qs) h = ap (λ (l : List ℕ). deal c p l) (pad_build (length qs) PLACES 0 qs refl h.1)
view_memory (gather c q ps) h = ap (λ (l : List ℕ). gather c q l) (pad_build (length ps) PLACES 0 ps refl h.1)

-- filled places are tidy where the shape uses all that is filled in
placed_tidy : (s : Shape) (k : Kind) (n v f : ℕ) (ps qs : List ℕ) (ss : List Step) → s.least ≤ n → n ≤ s.most → length ps ≤ s.ins → length qs ≤ s.outs →
    length ss ≤ s.steps → (s.variable ≡ false → v ≡ 0) → (s.field ≡ false → f ≡ 0) → Tidy s (placed k n v f ps qs ss)
placed_tidy s k n v f ps qs ss low high a b c d e =
    record {
      least = low;
      most = high;
      ins = λ j l u. pad_past PLACES 0 ps j (omega arith) u;
      outs = λ j l u. pad_past PLACES 0 qs j (omega arith) u;
      steps = λ j l u. ap blank (pad_past PLACES no_step ss j (omega arith) u) ∙ blank_no_step;
      variable = d;
      field = e;
    }

number_tidy : (o : Operator) → is_empty o.kind ≡ false → Tidy (shape_of o.kind o.count) o → memory_number o ≡ 0
unfolding memory_number
number_tidy o e t = rw (e, tidy_of_parts (shape_of o.kind o.count) o t)

pub number_memory : (o : Op) → Small o → memory_number (memory o) ≡ 0
number_memory (line p q ss) h =
    number_tidy (memory (line p q ss)) refl
    (placed_tidy (shape_of Line (length ss)) Line (length ss) 0 0 (p ∷ []) (q ∷ []) ss h.0 h.1 (omega arith) (omega arith) (omega arith)
    (λ _. refl) (λ _. refl))
number_memory (latest p v f) h =
    number_tidy (memory (latest p v f)) refl
    (placed_tidy (shape_of Latest 0) Latest 0 v f (p ∷ []) [] [] (omega arith) (omega arith) (omega arith) (omega arith) (omega arith) never' never')
number_memory (double p q r) h =
    number_tidy (memory (double p q r)) refl
    (placed_tidy (shape_of Double 0) Double 0 0 0 (p ∷ []) (q ∷ r ∷ []) [] (omega arith) (omega arith) (omega arith) (omega arith)
    (omega arith) (λ _. refl) (λ _. refl))
number_memory (deal c p qs) h =
    number_tidy (memory (deal c p qs)) refl
    (placed_tidy (shape_of Deal (length qs)) Deal (length qs) c 0 (p ∷ []) qs [] h.0 h.1 (omega arith) (omega arith) (omega arith) never' (λ _. refl))
number_memory (gather c q ps) h =
    number_tidy (memory (gather c q ps)) refl
    (placed_tidy (shape_of Gather (length ps)) Gather (length ps) c 0 ps (q ∷ []) [] h.0 h.1 (omega arith) (omega arith) (omega arith) never' (λ _. refl))

pub ready_memory : (o : Op) → Small o → Ready (memory o)
ready_memory o h = ready_of_number (memory o) (number_memory o h)

small_as : (k : Kind) (o : Operator) → is_empty k ≡ false → Tidy (shape_of k o.count) o → Small (view_as k o)
small_as Empty o e t = never' e
small_as Line o e t = simp build_length (t.least, t.most)
small_as Latest o e t = tt
small_as Double o e t = tt
small_as Deal o e t = simp build_length (t.least, t.most)
small_as Gather o e t = simp build_length (t.least, t.most)

pub small_view : (o : Operator) → memory_number o ≡ 0 → Small (view o)
small_view o h =
    let t = tidy_of_number o h in
    small_as o.kind o t.1 (tidy_parts (shape_of o.kind o.count) o t.0)

abbrev operator : Kind → ℕ → ℕ → ℕ → List ℕ → List ℕ → List Step → Operator
operator k n v f ps qs ss = record { kind = k; count = n; variable = v; field = f; ins = ps; outs = qs; steps = ss }

operator_eq : {k k' : Kind} {n n' v v' f f' : ℕ} {ps ps' qs qs' : List ℕ} {ss ss' : List Step} →
    k ≡ k' → n ≡ n' → v ≡ v' → f ≡ f' → ps ≡ ps' → qs ≡ qs' → ss ≡ ss' →
    operator k n v f ps qs ss ≡ operator k' n' v' f' ps' qs' ss'
operator_eq a b c d e g h = cc

-- what the shape uses, filled up again, is the operator
placed_back : (s : Shape) (o : Operator) → Held o → Tidy s o → (k : Kind) (n v f : ℕ) → o.kind ≡ k → n ≡ o.count → o.variable ≡ v → o.field ≡ f →
    placed k n v f (ways s.ins o.ins) (ways s.outs o.outs) (steps_in s.steps o.steps) ≡ o
placed_back s o h t k n v f a b c d =
    operator_eq (sym a) b (sym c) (sym d) (pad_back PLACES s.ins 0 o.ins h.ins_full t.ins)
    (pad_back PLACES s.outs 0 o.outs h.outs_full t.outs)
    (pad_back PLACES s.steps no_step o.steps h.steps_full
    (λ j l u. blank_is (get_or o.steps j no_step) (t.steps j l u)))

memory_as : (k : Kind) (o : Operator) → o.kind ≡ k → is_empty k ≡ false → Held o → Tidy (shape_of k o.count) o → memory (view_as k o) ≡ o
memory_as Empty o e i h t = never' i
memory_as Line o e i h t = placed_back (shape_of Line o.count) o h t Line _ 0 0 e (build_length o.count _) (t.variable refl) (t.field refl)
memory_as Latest o e i h t = placed_back (shape_of Latest o.count) o h t Latest 0 _ _ e (omega arith) refl refl
memory_as Double o e i h t = placed_back (shape_of Double o.count) o h t Double 0 0 0 e (omega arith) (t.variable refl) (t.field refl)
memory_as Deal o e i h t = placed_back (shape_of Deal o.count) o h t Deal _ _ 0 e (build_length o.count _) refl (t.field refl)
memory_as Gather o e i h t = placed_back (shape_of Gather o.count) o h t Gather _ _ 0 e (build_length o.count _) refl (t.field refl)

pub memory_view : (o : Operator) → Held o → memory_number o ≡ 0 → memory (view o) ≡ o
memory_view o h e =
    let t = tidy_of_number o e in
    memory_as o.kind o refl t.1 h (tidy_parts (shape_of o.kind o.count) o t.0)

vacant_as : (k : Kind) (o : Operator) → o.kind ≡ k → is_empty k ≡ true → Held o → Tidy (shape_of k o.count) o → o ≡ no_operator
vacant_as Empty o e i h t = sym (placed_back (shape_of Empty o.count) o h t Empty 0 0 0 e (omega arith) (t.variable refl) (t.field refl))
vacant_as Line o e i h t = never i
vacant_as Latest o e i h t = never i
vacant_as Double o e i h t = never i
vacant_as Deal o e i h t = never i
vacant_as Gather o e i h t = never i

pub vacant_is : (o : Operator) → Held o → vacant o ≡ true → o ≡ no_operator
unfolding vacant
vacant_is o h e =
    let t = both (is_empty o.kind) (tidy o) e in
    vacant_as o.kind o refl t.0 h (tidy_parts (shape_of o.kind o.count) o t.1)

pub vacant_no_operator : vacant no_operator ≡ true
unfolding vacant tidy_as blank
vacant_no_operator = refl

-- what a kind's operator gives, the operator gives
pub by_kind : {A : Type 0} (f : Op → A) (o : Operator) (k : Kind) → o.kind ≡ k → f (view_as k o) ≡ f (view o)
by_kind f o k e = ap (λ (j : Kind). f (view_as j o)) (sym e)

-- a ready operator has a kind
pub not_empty : {A : Type 0} (o : Operator) → Ready o → o.kind ≡ Empty → A
not_empty o r e = never' (sym (ap is_empty e) ∙ r.some)
