-- Exactness of the readers of bytes: one of some bytes, at once or after blanks, a word, digits and what closes them.
-- Assumes nothing.
use Prim.Native.Nat.{ℕ}
use mathlib.Core.Path.{◌≡◌, refl, ap, ◌∙◌, sym}
use mathlib.Core.Logic.{⊎_elim}
use mathlib.Core.Bool.{Bool, true, false, cond, not, ◌&&◌}
use mathlib.Core.List.{List, [], ◌∷◌, ◌++◌}
use native.Mathlib.Omega.{arith}
use lib.Dec.{eqb}
use borrow.Author.Tests.{eq-eqb, ne_eqb, not-true}
use Rattle.base_lists.proofs.Build.{never}
use Rattle.base_lists.proofs.Tests.{both, neither_of}
use Rattle.base_lists.specs.Lists.{member, all}
use Rattle.text_scan.specs.Reader.{Res, got, lost, Reader, bind, ◌>>=◌, here, sign, spell, digits, BLANKS, is_blank, is_digit, digit_on, goes_on}
use Rattle.text_scan.proofs.Binding.{same_bind}
use Rattle.text_scan.proofs.Exact.{Viable, View, whole, broken, short, Exact, exact_done, some_word, exact_bind, exact_same, either}

-- ---- one of some bytes

pub member_first : (m : ℕ) (ms : List ℕ) → member m (m ∷ ms) ≡ true
member_first m ms = rw (eq-eqb m m refl)

pub here_in : (b : ℕ) (ms x : List ℕ) → member b ms ≡ true → here ms (b ∷ x) ≡ got b x
unfolding here
here_in b ms x h = ap (λ (c : Bool). cond c (got b x) (lost (b ∷ x))) h

pub here_out : (b : ℕ) (ms x : List ℕ) → member b ms ≡ false → here ms (b ∷ x) ≡ lost (b ∷ x)
unfolding here
here_out b ms x h = ap (λ (c : Bool). cond c (got b x) (lost (b ∷ x))) h

here_viable : (m : ℕ) (ms : List ℕ) → Viable (here (m ∷ ms)) []
here_viable m ms = record { end = m ∷ []; value = m; reads = λ t. here_in m (m ∷ ms) t (member_first m ms) }

pub exact_here : (m : ℕ) (ms : List ℕ) → Exact (here (m ∷ ms))
unfolding here
exact_here m ms [] = short (here_viable m ms) refl
exact_here m ms (b ∷ s) =
    ⊎_elim (λ h. whole (b ∷ []) s b refl (λ x. here_in b (m ∷ ms) x h))
    (λ h. broken [] b s refl (here_viable m ms) (λ x. here_out b (m ∷ ms) x h))
    (either (member b (m ∷ ms)))

pub exact_spell : (w : List ℕ) → Exact (spell w)
unfolding spell
exact_spell [] = exact_done 0
exact_spell (c ∷ w) = exact_bind (exact_here c []) (λ b. exact_spell w)

-- ---- a byte that is passed over

module _ {A : Type 0} (P Q : Reader A) (b : ℕ) (e : (x : List ℕ) → P (b ∷ x) ≡ Q x) where
  viable_past : {u : List ℕ} → Viable Q u → Viable P (b ∷ u)
  viable_past {u} v = record { end = v.end; value = v.value; reads = λ t. e (u ++ (v.end ++ t)) ∙ v.reads t }

  past : (s : List ℕ) → View Q s → View P (b ∷ s)
  past s (whole u t a f r) = whole (b ∷ u) t a (ap (λ (l : List ℕ). b ∷ l) f) (λ x. e (u ++ x) ∙ r x)
  past s (broken u c t f v d) =
      broken (b ∷ u) c t (ap (λ (l : List ℕ). b ∷ l) f) (viable_past v) (λ x. e (u ++ (c ∷ x)) ∙ d x)
  past s (short v d) = short (viable_past v) (e s ∙ d)

-- ---- blanks, and one of some bytes

module _ (m : ℕ) (ms : List ℕ) (n : is_blank m ≡ false) where
  sign_blank : (b : ℕ) (x : List ℕ) → is_blank b ≡ true → sign (m ∷ ms) (b ∷ x) ≡ sign (m ∷ ms) x
  unfolding sign
  sign_blank b x h = ap (λ (c : Bool). cond c (sign (m ∷ ms) x) (here (m ∷ ms) (b ∷ x))) h

  sign_here : (b : ℕ) (x : List ℕ) → is_blank b ≡ false → sign (m ∷ ms) (b ∷ x) ≡ here (m ∷ ms) (b ∷ x)
  unfolding sign
  sign_here b x h = ap (λ (c : Bool). cond c (sign (m ∷ ms) x) (here (m ∷ ms) (b ∷ x))) h

  sign_viable : Viable (sign (m ∷ ms)) []
  sign_viable = record { end = m ∷ []; value = m; reads = λ t. sign_here m t n ∙ here_in m (m ∷ ms) t (member_first m ms) }

  pub exact_sign : Exact (sign (m ∷ ms))
  unfolding sign
  exact_sign [] = short sign_viable refl
  exact_sign (b ∷ s) =
      ⊎_elim (λ h. past (sign (m ∷ ms)) (sign (m ∷ ms)) b (λ x. sign_blank b x h) s (exact_sign s))
      (λ h. ⊎_elim
      (λ g. whole (b ∷ []) s b refl (λ x. sign_here b x h ∙ here_in b (m ∷ ms) x g))
      (λ g. broken [] b s refl sign_viable (λ x. sign_here b x h ∙ here_out b (m ∷ ms) x g))
      (either (member b (m ∷ ms))))
      (either (is_blank b))

-- ---- digits, and then a reader that no digit begins

module _ {B : Type 0} (top : ℕ) (K : ℕ → Reader B) (k : (n : ℕ) → Exact (K n))
    (apart : (n b : ℕ) (x : List ℕ) → is_digit b ≡ true → K n (b ∷ x) ≡ lost (b ∷ x)) where
  abbrev number : ℕ → Reader B
  number n s = bind (digits top n s) K

  goes : (n b : ℕ) (x : List ℕ) → goes_on top n b ≡ true → number n (b ∷ x) ≡ number (digit_on n b) x
  unfolding digits
  goes n b x h = ap (λ (c : Bool). bind (cond c (digits top (digit_on n b) x) (got n (b ∷ x))) K) h

  holds : (n b : ℕ) (x : List ℕ) → goes_on top n b ≡ false → number n (b ∷ x) ≡ K n (b ∷ x)
  unfolding digits
  holds n b x h = ap (λ (c : Bool). bind (cond c (digits top (digit_on n b) x) (got n (b ∷ x))) K) h

  settled : (n : ℕ) (x : List ℕ) {a : B} {t : List ℕ} → K n x ≡ got a t → number n x ≡ got a t
  unfolding digits
  settled n [] h = h
  settled n (b ∷ x) {a} {t} h =
      ⊎_elim
      (λ g. let d = apart n b x (both (is_digit b) _ g).0 in absurd (let z : ◌≡◌ {A = ℕ} 0 1 = cc in omega arith))
      (λ g. holds n b x g ∙ h)
      (either (goes_on top n b))

  viable_number : (n : ℕ) {u : List ℕ} → Viable (K n) u → Viable (number n) u
  viable_number n {u} v = record { end = v.end; value = v.value; reads = λ t. settled n (u ++ (v.end ++ t)) (v.reads t) }

  -- where a byte stands at which the digits end, what is read is as the reader after them says
  first_byte : (n b : ℕ) (s u : List ℕ) (c : ℕ) (t : List ℕ) → goes_on top n b ≡ false → b ∷ s ≡ u ++ (c ∷ t) → (x : List ℕ) →
      number n (u ++ (c ∷ x)) ≡ K n (u ++ (c ∷ x))
  first_byte n b s [] c t h e x = let f : b ≡ c = cc in holds n c x (rw f at h)
  first_byte n b s (a ∷ u) c t h e x = let f : b ≡ a = cc in holds n a (u ++ (c ∷ x)) (rw f at h)

  ended : (n b : ℕ) (s : List ℕ) → goes_on top n b ≡ false → View (K n) (b ∷ s) → View (number n) (b ∷ s)
  ended n b s h (whole u t a e r) = whole u t a e (λ x. settled n (u ++ x) (r x))
  ended n b s h (broken u c t e v d) = broken u c t e (viable_number n v) (λ x. first_byte n b s u c t h e x ∙ d x)
  ended n b s h (short v d) = short (viable_number n v) (holds n b s h ∙ d)

  no_end : (n : ℕ) → View (K n) [] → K n [] ≡ lost []
  no_end n (whole [] t a e r) = let d = apart n 48 [] refl in let f = r (48 ∷ []) in absurd (let z : ◌≡◌ {A = ℕ} 0 1 = cc in omega arith)
  no_end n (whole (c ∷ u) t a e r) = absurd (let z : ◌≡◌ {A = ℕ} 0 1 = cc in omega arith)
  no_end n (broken [] b t e v d) = absurd (let z : ◌≡◌ {A = ℕ} 0 1 = cc in omega arith)
  no_end n (broken (c ∷ u) b t e v d) = absurd (let z : ◌≡◌ {A = ℕ} 0 1 = cc in omega arith)
  no_end n (short v d) = d

  pub exact_digits : (n : ℕ) → Exact (number n)
  unfolding digits
  exact_digits n [] = short (viable_number n (some_word (k n))) (no_end n (k n []))
  exact_digits n (b ∷ s) =
      ⊎_elim (λ h. past (number n) (number (digit_on n b)) b (λ x. goes n b x h) s (exact_digits (digit_on n b) s))
      (λ h. ended n b s h (k n (b ∷ s)))
      (either (goes_on top n b))

-- ---- by a test that computes

abbrev pub some_byte : List ℕ → Bool
some_byte [] = false
some_byte (m ∷ ms) = true

abbrev pub no_blank : List ℕ → Bool
no_blank [] = false
no_blank (m ∷ ms) = not (is_blank m)

pub exact_one : (ms : List ℕ) → some_byte ms ≡ true → Exact (here ms)
exact_one [] h = never h
exact_one (m ∷ ms) h = exact_here m ms

pub exact_mark : (ms : List ℕ) → no_blank ms ≡ true → Exact (sign ms)
exact_mark [] h = never h
exact_mark (m ∷ ms) h = exact_sign m ms (not-true (is_blank m) h)

-- ---- readers that end in digits: exact with what no digit begins after them

abbrev pub Apart : {A B : Type 0} → (A → Reader B) → Type 0
Apart {A} K = (a : A) (b : ℕ) (x : List ℕ) → is_digit b ≡ true → K a (b ∷ x) ≡ lost (b ∷ x)

pub record Open {A : Type 0} (P : Reader A) : Type 1 where
  pub closed : (B : Type 0) (K : A → Reader B) → ((a : A) → Exact (K a)) → Apart K → Exact (P >>= K)

pub open_digits : (top n : ℕ) → Open (digits top n)
open_digits top n = record { closed = λ B K k apart. exact_digits top K k apart n }

pub open_bind : {A B : Type 0} {P : Reader A} {Q : A → Reader B} → Exact P → ((a : A) → Open (Q a)) → Open (P >>= Q)
open_bind {A} {B} {P} {Q} p q =
    record { closed = λ C K k apart. exact_same (λ s. same_bind (P s) Q K) (exact_bind p (λ a. (q a).closed C K k apart)) }

pub open_cond : {A : Type 0} {P Q : Reader A} (c : Bool) → Open P → Open Q → Open (cond c P Q)
open_cond true p q = p
open_cond false p q = q

-- a digits' value, said otherwise
pub open_as : {A B : Type 0} {P : Reader A} (f : A → B) → Open P → Open (P >>= λ (a : A). got (f a))
open_as {A} {B} {P} f p =
    record {
      closed = λ C K k apart. exact_same (λ s. same_bind (P s) (λ (a : A). got (f a)) K)
          (p.closed C (λ a. K (f a)) (λ a. k (f a)) (λ a. apart (f a)));
    }

-- what may close a number: no blank and no digit
abbrev pub closing : List ℕ → Bool
closing ms = no_blank ms && all (λ (m : ℕ). not (is_digit m)) ms

no_digit : (ms : List ℕ) (b : ℕ) → all (λ (m : ℕ). not (is_digit m)) ms ≡ true → is_digit b ≡ true → member b ms ≡ false
no_digit [] b h d = refl
no_digit (m ∷ ms) b h d =
    let e = both (not (is_digit m)) _ h in
    neither_of (eqb b m) _ (ne_eqb b m (λ i. never (sym (not-true (is_digit m) e.0) ∙ ap is_digit (sym i) ∙ d))) (no_digit ms b e.1 d)

pub no_blank_digit : (b : ℕ) → is_digit b ≡ true → is_blank b ≡ false
no_blank_digit b d =
    no_digit BLANKS b refl d

pub sign_digit : (ms : List ℕ) (b : ℕ) (x : List ℕ) → all (λ (m : ℕ). not (is_digit m)) ms ≡ true → is_digit b ≡ true → sign ms (b ∷ x) ≡ lost (b ∷ x)
unfolding sign
sign_digit ms b x h d =
    ap (λ (c : Bool). cond c (sign ms x) (here ms (b ∷ x))) (no_blank_digit b d) ∙ here_out b ms x (no_digit ms b h d)

-- digits, and then a mark
pub exact_closed : {A B : Type 0} {P : Reader A} (ms : List ℕ) → closing ms ≡ true → Open P → {F : A → ℕ → Reader B} → ((a : A) (m : ℕ) → Exact (F a m)) →
    Exact (P >>= λ (a : A). sign ms >>= F a)
exact_closed {A} {B} ms h p {F} f =
    let e = both (no_blank ms) _ h in
    p.closed B (λ (a : A). sign ms >>= F a) (λ a. exact_bind (exact_mark ms e.0) (f a))
    (λ a b x d. ap (λ (z : Res ℕ). bind z (F a)) (sign_digit ms b x e.1 d))

-- where only blanks are left there is no mark
pub sign_blanks : (ms s : List ℕ) → all is_blank s ≡ true → sign ms s ≡ lost []
unfolding sign
sign_blanks ms [] h = refl
sign_blanks ms (b ∷ s) h =
    let e = both (is_blank b) _ h in
    ap (λ (c : Bool). cond c (sign ms s) (here ms (b ∷ s))) e.0 ∙ sign_blanks ms s e.1
