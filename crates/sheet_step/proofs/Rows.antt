-- The table of steps is the paper's, row by row: one test, computed. And the paper's numbers for the functions, there and back.
use mathlib.Core.Path.{◌≡◌, refl, ◌∙◌, ap, sym}
use mathlib.Core.Bool.{Bool, true, false, cond, ◌&&◌, beq, false≢true, and-eq-true_iff}
use mathlib.Core.List.{List, [], ◌∷◌}
use Prim.Native.Nat.{ℕ, ◌<◌}
use lib.Dec.{eqb, lit<}
use lib.ListN.{get_or}
use borrow.Author.Tests.{eqb-true}
use Rattle.base_lists.proofs.Tables.{every_at}
use Rattle.sheet_step.specs.Step.{code_of, func_of, row_of, places_taken, known_func}
use Rattle.sheet_step.specs.declared.Func.{Func}
use Rattle.sheet_step.specs.declared.Func.TheVariants.{None, Keep, Add, Copy, Count, Stamp}
use Rattle.sheet_step.specs.declared.Row.{Row}

beq_eq : (a b : Bool) → beq a b ≡ true → a ≡ b
beq_eq true true e = refl
beq_eq false false e = refl
beq_eq true false e = sym e
beq_eq false true e = e

abbrev row : ℕ → Bool → Bool → Bool → Bool → ℕ → ℕ → Row
row a v r l h i o = record { arity = a; variable = v; r = r; low = l; high = h; reads = i; writes = o }

-- the code's table
abbrev pub table : List Row
table =
    row 0 false false false false 0 0
    ∷ (row 3 false false true true 1 0
    ∷ (row 2 false false true false 1 1
    ∷ (row 2 false true false false 1 2
    ∷ (row 2 true false false false 0 1
    ∷ (row 2 true false false false 0 1
    ∷ [])))))

abbrev same_row : Row → Row → Bool
same_row a b =
    eqb a.arity b.arity && (beq a.variable b.variable && (beq a.r b.r && (beq a.low b.low
    && (beq a.high b.high && (eqb a.reads b.reads && eqb a.writes b.writes)))))

row_eq : {a a' i i' o o' : ℕ} {v v' r r' l l' h h' : Bool} → a ≡ a' → v ≡ v' → r ≡ r' → l ≡ l' → h ≡ h' → i ≡ i' → o ≡ o' →
    row a v r l h i o ≡ row a' v' r' l' h' i' o'
row_eq p q s t u w x = cc

same_row_lem : (a b : Row) → same_row a b ≡ true → a ≡ b
same_row_lem a b e =
    let t1 = (and-eq-true_iff _ _).0 e in
    let t2 = (and-eq-true_iff _ _).0 t1.1 in
    let t3 = (and-eq-true_iff _ _).0 t2.1 in
    let t4 = (and-eq-true_iff _ _).0 t3.1 in
    let t5 = (and-eq-true_iff _ _).0 t4.1 in
    let t6 = (and-eq-true_iff _ _).0 t5.1 in
    row_eq (eqb-true a.arity b.arity t1.0) (beq_eq a.variable b.variable t2.0) (beq_eq a.r b.r t3.0)
    (beq_eq a.low b.low t4.0) (beq_eq a.high b.high t5.0) (eqb-true a.reads b.reads t6.0)
    (eqb-true a.writes b.writes t6.1)

pub code_below : (f : Func) → code_of f < 6
code_below None = lit< tt
code_below Keep = lit< tt
code_below Add = lit< tt
code_below Copy = lit< tt
code_below Count = lit< tt
code_below Stamp = lit< tt

-- the two ways of the paper's numbers agree
pub func_code : (f : Func) → func_of (code_of f) ≡ f
unfolding func_of
func_code None = refl
func_code Keep = refl
func_code Add = refl
func_code Copy = refl
func_code Count = refl
func_code Stamp = refl

-- the rule at each function, by one computed test over the whole table
pub table_right : (f : Func) (d : Row) → get_or table (code_of f) d ≡ row_of f
unfolding func_of
table_right f d =
    same_row_lem _ _ (every_at (λ (k : ℕ) (w : Row). same_row w (row_of (func_of k))) d table refl (code_of f) (code_below f)) ∙ ap row_of (func_code f)

-- the arity says again what the other columns say: a known function's is how many places its row takes, None's is 0
pub arity_counts_places : (f : Func) → (row_of f).arity ≡ cond (known_func f) (places_taken (row_of f)) 0
arity_counts_places None = refl
arity_counts_places Keep = refl
arity_counts_places Add = refl
arity_counts_places Copy = refl
arity_counts_places Count = refl
arity_counts_places Stamp = refl

-- one case of `func_of`
code_by : (b : Bool) (n : ℕ) (f g : Func) → (b ≡ true → code_of f ≡ n) → (known_func g ≡ true → code_of g ≡ n) →
    known_func (cond b f g) ≡ true → code_of (cond b f g) ≡ n
code_by true n f g e h k = e refl
code_by false n f g e h k = h k

pub code_func : (n : ℕ) → known_func (func_of n) ≡ true → code_of (func_of n) ≡ n
unfolding func_of
code_func n =
    code_by (eqb n 1) n Keep _ (λ e. sym (eqb-true n 1 e))
    (code_by (eqb n 2) n Add _ (λ e. sym (eqb-true n 2 e))
    (code_by (eqb n 3) n Copy _ (λ e. sym (eqb-true n 3 e))
    (code_by (eqb n 4) n Count _ (λ e. sym (eqb-true n 4 e))
    (code_by (eqb n 5) n Stamp None (λ e. sym (eqb-true n 5 e)) (λ e. absurd (false≢true e))))))
