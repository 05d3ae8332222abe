-- The program's answers and the paper's words: no two answers say the same, and what an accepting one says.
-- Assumes nothing.
use mathlib.Core.Path.{◌≡◌, refl, ap, sym}
use mathlib.Core.Bool.{Bool, true, false, cond}
use mathlib.Core.Option.{Option, some, none}
use Prim.Native.Nat.{ℕ}
use native.Mathlib.Omega.{arith}
use Rattle.std.specs.Prelude.{Result, Ok, Err, Some, None}
use Rattle.std.specs.Prelude as rattle
use Rattle.std.specs.Result.{result_unwrap_or}
use Rattle.base_lists.proofs.Build.{never}
use Rattle.base_refusal.specs.declared.Reason.{Reason}
use Rattle.base_refusal.specs.declared.Refusal.{Refusal}
use Rattle.base_refusal.specs.Refusal.{number_of}
use Rattle.base_refusal.proofs.Reasons.{number_injective}
use Rattle.sheet.specs.Answer.{Paper, accepted, refused_at, refused, refused_for, is_accepted, paper}

abbrev paper_number : Paper → ℕ
paper_number none = 0
paper_number (some x) = x.0

-- the record that a refusal names
abbrev pub paper_record : Paper → Option ℕ
paper_record none = none
paper_record (some x) = x.1

pub same_refusal : (m n r s : ℕ) → refused_at m r ≡ refused_at n s → (m ≡ n) × (r ≡ s)
same_refusal m n r s e = let d : some r ≡ some s = ap paper_record e in (ap paper_number e, cc)

-- accepted, refused at a record and refused at none are three things
pub accepted_apart : (m r : ℕ) → accepted ≡ refused_at m r → ⊥
accepted_apart m r e = let z : ◌≡◌ {A = ℕ} 0 1 = cc in omega arith

pub record_apart : (m n r : ℕ) → refused_at m r ≡ refused n → ⊥
record_apart m n r e = let d : some r ≡ none = ap paper_record e in let z : ◌≡◌ {A = ℕ} 0 1 = cc in omega arith

pub none_apart : (n : ℕ) → accepted ≡ refused n → ⊥
none_apart n e = let z : ◌≡◌ {A = ℕ} 0 1 = cc in omega arith

-- an accepting answer is the one
pub accepted_of : (p : Paper) → is_accepted p ≡ true → p ≡ accepted
accepted_of none h = refl
accepted_of (some x) h = never h

-- the test of sheet and numbers accepts only where both of its parts do
pub both_stand : (p : Paper) (b : Bool) → cond (is_accepted p) (cond b accepted (refused 8)) p ≡ accepted → (p ≡ accepted) × (b ≡ true)
both_stand none true e = (refl, refl)
both_stand none false e = absurd (none_apart 8 (sym e))
both_stand (some x) b e = let z : ◌≡◌ {A = ℕ} 0 1 = cc in absurd (omega arith)

-- a refusal is never an accepting answer
pub refusal_apart : (reason : Reason) (spot : rattle.Option ℕ) → accepted ≡ refused_for reason spot → ⊥
refusal_apart reason (Some k) e = accepted_apart (number_of reason) k e
refusal_apart reason None e = none_apart (number_of reason) e

-- and its paper is no accepting one
pub refusal_refuses : (reason : Reason) (spot : rattle.Option ℕ) → is_accepted (refused_for reason spot) ≡ false
refusal_refuses reason (Some k) = refl
refusal_refuses reason None = refl

refusal_injective : (a b : Reason) (x y : rattle.Option ℕ) → refused_for a x ≡ refused_for b y → (a ≡ b) × (x ≡ y)
refusal_injective a b (Some k) (Some l) e = let d = same_refusal (number_of a) (number_of b) k l e in (number_injective a b d.0, ap Some d.1)
refusal_injective a b (Some k) None e = absurd (record_apart (number_of a) (number_of b) k e)
refusal_injective a b None (Some l) e = absurd (record_apart (number_of b) (number_of a) l (sym e))
refusal_injective a b None None e = (number_injective a b (ap paper_number e), refl)

refusal_eq : {a b : Reason} {x y : rattle.Option ℕ} → a ≡ b → x ≡ y →
    ◌≡◌ {A = Refusal} (record { reason = a; spot = x }) (record { reason = b; spot = y })
refusal_eq p q = cc

-- refusals that say the same in the paper's words are the same
pub refusal_of_paper : (e d : Refusal) → refused_for e.reason e.spot ≡ refused_for d.reason d.spot → e ≡ d
refusal_of_paper e d h = let p = refusal_injective e.reason d.reason e.spot d.spot h in refusal_eq p.0 p.1

pub paper_injective : (a b : Result (Unit {0}) Refusal) → paper a ≡ paper b → a ≡ b
paper_injective (Ok x) (Ok y) h = refl
paper_injective (Ok x) (Err d) h = absurd (refusal_apart d.reason d.spot h)
paper_injective (Err e) (Ok y) h = absurd (refusal_apart e.reason e.spot (sym h))
paper_injective (Err e) (Err d) h = ap Err (refusal_of_paper e d h)

-- with the value that stands in an answer, or beside a refusal, they are the same whole
pub answer_injective : {A : Type 0} (r r' : Result A Refusal) (d : A) → paper r ≡ paper r' → result_unwrap_or r d ≡ result_unwrap_or r' d → r ≡ r'
answer_injective (Ok x) (Ok y) d h e = ap Ok e
answer_injective (Ok x) (Err g) d h e = absurd (refusal_apart g.reason g.spot h)
answer_injective (Err f) (Ok y) d h e = absurd (refusal_apart f.reason f.spot (sym h))
answer_injective (Err f) (Err g) d h e = ap Err (refusal_of_paper f g h)

-- an accepted answer is a value
pub value_of : {A : Type 0} (r : Result A Refusal) (d : A) → paper r ≡ accepted → r ≡ Ok (result_unwrap_or r d)
value_of (Ok x) d h = refl
value_of (Err e) d h = absurd (refusal_apart e.reason e.spot (sym h))
