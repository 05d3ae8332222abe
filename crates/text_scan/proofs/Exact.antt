-- Exactness: every list is, to a reader, one of three: a word of it and something after; the beginning of a word and a byte after which no
-- word goes on; or the beginning of a word and nothing more. Laws: done, one after the other, again and again, a choice.
-- Assumes nothing.
use Prim.Native.Nat.{ℕ, zero, suc, ◌<◌}
use mathlib.Core.Path.{◌≡◌, refl, ap, ◌∙◌, sym}
use mathlib.Core.Logic.{◌⊎◌, inl, inr}
use mathlib.Core.Bool.{Bool, true, false, cond}
use mathlib.Core.List.{List, [], ◌∷◌, ◌++◌, append_assoc}
use native.Mathlib.Omega.{arith}
use lib.ListN.{length, length-append}
use Rattle.text_scan.specs.Reader.{Res, got, lost, Reader, bind, ◌>>=◌, ◌>>◌, Turn, again, last, turn, loop, repeat}

-- u can be carried on to a word, whatever stands after the word
pub record Viable {A : Type 0} (P : Reader A) (u : List ℕ) : Type 0 where
  pub end : List ℕ
  pub value : A
  pub reads : (t : List ℕ) → P (u ++ (end ++ t)) ≡ got value t

pub data View {A : Type 0} (P : Reader A) (s : List ℕ) : Type 0 where
  whole : (u t : List ℕ) (a : A) → s ≡ u ++ t → ((x : List ℕ) → P (u ++ x) ≡ got a x) → View P s
  broken : (u : List ℕ) (b : ℕ) (t : List ℕ) → s ≡ u ++ (b ∷ t) → Viable P u → ((x : List ℕ) → P (u ++ (b ∷ x)) ≡ lost (b ∷ x)) → View P s
  short : Viable P s → P s ≡ lost [] → View P s

abbrev pub Exact : {A : Type 0} → Reader A → Type 0
Exact P = (s : List ℕ) → View P s

pub exact_done : {A : Type 0} (a : A) → Exact (got a)
exact_done a s = whole [] s a refl (λ x. refl)

-- an exact reader has some word
from_empty : {A : Type 0} (P : Reader A) → View P [] → Viable P []
from_empty P (whole u t a e r) = record { end = u; value = a; reads = r }
from_empty P (broken [] b t e v d) = absurd (let z : ◌≡◌ {A = ℕ} 0 1 = cc in omega arith)
from_empty P (broken (c ∷ u) b t e v d) = absurd (let z : ◌≡◌ {A = ℕ} 0 1 = cc in omega arith)
from_empty P (short v d) = v

pub some_word : {A : Type 0} {P : Reader A} → Exact P → Viable P []
some_word {A} {P} p = from_empty P (p [])

module _ {A B : Type 0} (P : Reader A) (Q : A → Reader B) where
  module _ (some : (a : A) → Viable (Q a) []) where
    viable_then : {u : List ℕ} → Viable P u → Viable (P >>= Q) u
    viable_then {u} v =
        let w = some v.value in
        record {
          end = v.end ++ w.end;
          value = w.value;
          reads = λ t. ap (λ (l : List ℕ). bind (P (u ++ l)) Q) (append_assoc v.end w.end t)
              ∙ ap (λ (x : Res A). bind x Q) (v.reads (w.end ++ t)) ∙ w.reads t;
        }

  module _ (u : List ℕ) (a : A) (r : (x : List ℕ) → P (u ++ x) ≡ got a x) where
    after : (y x : List ℕ) → (P >>= Q) ((u ++ y) ++ x) ≡ Q a (y ++ x)
    after y x = ap (P >>= Q) (append_assoc u y x) ∙ ap (λ (z : Res A). bind z Q) (r (y ++ x))

    viable_after : {y : List ℕ} → Viable (Q a) y → Viable (P >>= Q) (u ++ y)
    viable_after {y} v = record { end = v.end; value = v.value; reads = λ t. after y (v.end ++ t) ∙ v.reads t }

    second : (s t : List ℕ) → s ≡ u ++ t → View (Q a) t → View (P >>= Q) s
    second s t e (whole y z c f g) =
        whole (u ++ y) z c (e ∙ ap (λ (l : List ℕ). u ++ l) f ∙ sym (append_assoc u y z)) (λ x. after y x ∙ g x)
    second s t e (broken y b z f v d) =
        broken (u ++ y) b z (e ∙ ap (λ (l : List ℕ). u ++ l) f ∙ sym (append_assoc u y (b ∷ z))) (viable_after v)
        (λ x. after y (b ∷ x) ∙ d x)
    second s t e (short v d) = rw e (short (viable_after v) (ap (λ (z : Res A). bind z Q) (r t) ∙ d))

  view_bind : (s : List ℕ) → View P s → ((a : A) → Viable (Q a) []) → ((a : A) (t : List ℕ) → P s ≡ got a t → View (Q a) t) → View (P >>= Q) s
  view_bind s (whole u t a e r) some q = second u a r s t e (q a t (ap P e ∙ r t))
  view_bind s (broken u b t e v d) some q = broken u b t e (viable_then some v) (λ x. ap (λ (z : Res A). bind z Q) (d x))
  view_bind s (short v d) some q = short (viable_then some v) (ap (λ (z : Res A). bind z Q) d)

-- one reader after the other
pub exact_bind : {A B : Type 0} {P : Reader A} {Q : A → Reader B} → Exact P → ((a : A) → Exact (Q a)) → Exact (P >>= Q)
exact_bind {A} {B} {P} {Q} p q s = view_bind P Q s (p s) (λ a. some_word (q a)) (λ a t e. q a t)

pub exact_next : {A B : Type 0} {P : Reader A} {Q : Reader B} → Exact P → Exact Q → Exact (P >> Q)
exact_next p q = exact_bind p (λ a. q)

-- a reader by another name
module _ {A : Type 0} {P Q : Reader A} (e : (s : List ℕ) → P s ≡ Q s) where
  viable_same : {u : List ℕ} → Viable Q u → Viable P u
  viable_same {u} v = record { end = v.end; value = v.value; reads = λ t. e (u ++ (v.end ++ t)) ∙ v.reads t }

  pub view_same : {s : List ℕ} → View Q s → View P s
  view_same (whole u t a f r) = whole u t a f (λ x. e (u ++ x) ∙ r x)
  view_same (broken u b t f v d) = broken u b t f (viable_same v) (λ x. e (u ++ (b ∷ x)) ∙ d x)
  view_same {s} (short v d) = short (viable_same v) (e s ∙ d)

  pub exact_same : Exact Q → Exact P
  exact_same q s = view_same (q s)

-- a reader that reads nothing of nothing leaves less
module _ {A : Type 0} (P : Reader A) (none : P [] ≡ lost []) where
  less : (s : List ℕ) (a : A) (t : List ℕ) → P s ≡ got a t → View P s → length t < length s
  less s a t g (whole [] y c e r) = let h = r [] in absurd (let z : ◌≡◌ {A = ℕ} 0 1 = cc in omega arith)
  less s a t g (whole (b ∷ u) y c e r) =
      let h = r y in
      let f : got a t ≡ got c y = sym g ∙ ap P e ∙ h in
      let i : length t ≡ length y = cc in
      omega (arith, ap length e, length-append u y)
  less s a t g (broken u b y e v d) = let h = d y in let f : P s ≡ P (u ++ (b ∷ y)) = ap P e in absurd (let z : ◌≡◌ {A = ℕ} 0 1 = cc in omega arith)
  less s a t g (short v d) = absurd (let z : ◌≡◌ {A = ℕ} 0 1 = cc in omega arith)

  pub shrinks : Exact P → (s : List ℕ) (a : A) (t : List ℕ) → P s ≡ got a t → length t < length s
  shrinks p s a t g = less s a t g (p s)

-- ---- again and again

-- a turn that can be the last
pub record Stops {A B : Type 0} (P : Reader (Turn A B)) : Type 0 where
  pub end : List ℕ
  pub value : B
  pub reads : (t : List ℕ) → P (end ++ t) ≡ got (last value) t

module _ {A B : Type 0} (P : A → Reader (Turn A B)) (smaller : (a : A) (s : List ℕ) (x : Turn A B) (t : List ℕ) → P a s ≡ got x t → length t < length s) where
  -- two ways to go on that agree on what is shorter
  same_turn : (F G : A → Reader B) (a : A) (s : List ℕ) → ((b : A) (t : List ℕ) → length t < length s → F b t ≡ G b t) →
      (x : Res (Turn A B)) → P a s ≡ x → bind x (turn F) ≡ bind x (turn G)
  same_turn F G a s h (got (again b) t) e = h b t (smaller a s (again b) t e)
  same_turn F G a s h (got (last b) t) e = refl
  same_turn F G a s h (lost t) e = refl

  any_fuel : (n m : ℕ) (a : A) (s : List ℕ) → length s < n → length s < m → loop n P a s ≡ loop m P a s
  unfolding loop
  any_fuel zero m a s h k = absurd (omega arith)
  any_fuel (suc n) zero a s h k = absurd (omega arith)
  any_fuel (suc n) (suc m) a s h k =
      same_turn (loop n P) (loop m P) a s (λ b t l. any_fuel n m b t (omega arith) (omega arith)) (P a s) refl

  -- the loop's equation
  pub repeat_turn : (a : A) (s : List ℕ) → repeat P a s ≡ (P a >>= turn (repeat P)) s
  unfolding repeat loop
  repeat_turn a s =
      same_turn (loop (length s) P) (repeat P) a s (λ b t l. any_fuel (length s) (suc (length t)) b t l (omega arith)) (P a s) refl

  module _ (p : (a : A) → Exact (P a)) (stops : (a : A) → Stops (P a)) where
    some_end : (a : A) → Viable (repeat P a) []
    some_end a =
        let w = stops a in
        record {
          end = w.end;
          value = w.value;
          reads = λ t. repeat_turn a (w.end ++ t) ∙ ap (λ (x : Res (Turn A B)). bind x (turn (repeat P))) (w.reads t);
        }

    some_turn : (x : Turn A B) → Viable (turn (repeat P) x) []
    some_turn (again a) = some_end a
    some_turn (last b) = some_word (exact_done b)

    view_turn : (s : List ℕ) → ((b : A) (t : List ℕ) → length t < length s → View (repeat P b) t) →
        (x : Turn A B) (t : List ℕ) → length t < length s → View (turn (repeat P) x) t
    view_turn s h (again a) t l = h a t l
    view_turn s h (last b) t l = exact_done b t

    view_repeat : (n : ℕ) (a : A) (s : List ℕ) → length s < n → View (repeat P a) s
    view_repeat zero a s h = absurd (omega arith)
    view_repeat (suc n) a s h =
        view_same (repeat_turn a)
        (view_bind (P a) (turn (repeat P)) s (p a s) some_turn
        (λ x t e. view_turn s (λ b y l. view_repeat n b y (omega arith)) x t (smaller a s x t e)))

    pub exact_repeat : (a : A) → Exact (repeat P a)
    exact_repeat a s = view_repeat (suc (length s)) a s (omega arith)

pub either : (b : Bool) → (b ≡ true) ⊎ (b ≡ false)
either true = inl refl
either false = inr refl

-- a choice
pub exact_cond : {A : Type 0} {P Q : Reader A} (c : Bool) → Exact P → Exact Q → Exact (cond c P Q)
exact_cond true p q = p
exact_cond false p q = q
