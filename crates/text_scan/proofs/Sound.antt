-- What a reader that got something says of it.
-- Assumes nothing.
use Prim.Native.Nat.{ℕ, ◌≤◌}
use mathlib.Core.Path.{◌≡◌, refl, ap, ◌∙◌, sym}
use mathlib.Core.Logic.{⊎_elim}
use mathlib.Core.Bool.{Bool, true, cond}
use mathlib.Core.List.{List, [], ◌∷◌}
use native.Mathlib.Omega.{arith}
use lib.Dec.{eqb, leb}
use borrow.Author.Tests.{leb-true, eqb-true}
use Rattle.base_lists.specs.Lists.{member, all}
use Rattle.base_lists.proofs.Build.{never}
use Rattle.base_lists.proofs.Tests.{both, or_cases}
use Rattle.text_scan.specs.Reader.{Res, got, lost, Reader, bind, here, digits, digit_on, goes_on}
use Rattle.text_scan.proofs.Exact.{either}
use Rattle.text_scan.proofs.Places.{goes_small}

-- one after the other: what came between
pub record Between {A B : Type 0} (x : Res A) (Q : A → Reader B) (b : B) (r : List ℕ) : Type 0 where
  pub value : A
  pub rest : List ℕ
  pub first : x ≡ got value rest
  pub second : Q value rest ≡ got b r

pub between : {A B : Type 0} (x : Res A) (Q : A → Reader B) {b : B} {r : List ℕ} → bind x Q ≡ got b r → Between x Q b r
between (got a t) Q e = record { value = a; rest = t; first = refl; second = e }
between (lost t) Q e = absurd (let z : ◌≡◌ {A = ℕ} 0 1 = cc in omega arith)

-- a byte that was read is one of those, and stood there
pub record Was (ms : List ℕ) (s : List ℕ) (b : ℕ) (r : List ℕ) : Type 0 where
  pub one : member b ms ≡ true
  pub text : s ≡ b ∷ r

pub here_was : (ms s : List ℕ) {b : ℕ} {r : List ℕ} → here ms s ≡ got b r → Was ms s b r
unfolding here
here_was ms [] e = absurd (let z : ◌≡◌ {A = ℕ} 0 1 = cc in omega arith)
here_was ms (a ∷ s) {b} {r} e =
    ⊎_elim
    (λ h. let f : got a s ≡ got b r = sym (ap (λ (c : Bool). cond c (got a s) (lost (a ∷ s))) h) ∙ e in
    let g : a ≡ b = cc in
    let i : s ≡ r = cc in
    record { one = rw g at h; text = cc })
    (λ h. let f : ◌≡◌ {A = Res ℕ} (lost (a ∷ s)) (got b r) = sym (ap (λ (c : Bool). cond c (got a s) (lost (a ∷ s))) h) ∙ e in
    absurd (let z : ◌≡◌ {A = ℕ} 0 1 = cc in omega arith))
    (either (member a ms))

pub at_most : (ms : List ℕ) (b k : ℕ) → all (λ (m : ℕ). leb m k) ms ≡ true → member b ms ≡ true → b ≤ k
at_most [] b k h e = never e
at_most (m ∷ ms) b k h e =
    let f = both (leb m k) _ h in
    ⊎_elim (λ g. let i = eqb-true b m g in let j = leb-true m k f.0 in omega arith) (λ g. at_most ms b k f.1 g) (or_cases (eqb b m) _ e)

pub digits_small : (top n : ℕ) (s : List ℕ) {m : ℕ} {r : List ℕ} → n ≤ top → digits top n s ≡ got m r → m ≤ top
unfolding digits
digits_small top n [] {m} h e = let f : n ≡ m = cc in omega arith
digits_small top n (b ∷ s) {m} {r} h e =
    ⊎_elim
    (λ g. digits_small top (digit_on n b) s (goes_small top n b g)
    (sym (ap (λ (c : Bool). cond c (digits top (digit_on n b) s) (got n (b ∷ s))) g) ∙ e))
    (λ g. let f : got n (b ∷ s) ≡ got m r = sym (ap (λ (c : Bool). cond c (digits top (digit_on n b) s) (got n (b ∷ s))) g) ∙ e in
    let i : n ≡ m = cc in omega arith)
    (either (goes_on top n b))
