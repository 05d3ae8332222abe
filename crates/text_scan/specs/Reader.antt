-- Reading a text from its front: what was read and what is left, or what is left from the first byte on that cannot stand there.
use Rattle.std.specs.Prelude.{ℕ, zero, suc, ◌+◌, ◌*◌, ◌-◌, Bool, cond, ◌&&◌, List, [], ◌∷◌, ltb, leb, length}
use Rattle.base_lists.specs.Lists.{member, all}

pub data Res (A : Type 0) : Type 0 where
  got : A → List ℕ → Res A
  lost : List ℕ → Res A

abbrev pub Reader : Type 0 → Type 0
Reader A = List ℕ → Res A

-- one reader, and then the next from where it ended
abbrev pub bind : {A B : Type 0} → Res A → (A → Reader B) → Res B
bind (got a r) f = f a r
bind (lost r) f = lost r

infixl 10 ◌>>=◌
infixl 10 ◌>>◌
abbrev pub ◌>>=◌ : {A B : Type 0} → Reader A → (A → Reader B) → Reader B
◌>>=◌ P Q s = bind (P s) Q

abbrev pub ◌>>◌ : {A B : Type 0} → Reader A → Reader B → Reader B
◌>>◌ P Q s = bind (P s) (λ a. Q)

-- again and again, until a turn says that it was the last
pub data Turn (A B : Type 0) : Type 0 where
  again : A → Turn A B
  last : B → Turn A B

abbrev pub turn : {A B : Type 0} → (A → Reader B) → Turn A B → Reader B
turn F (again a) = F a
turn F (last b) = got b

unfoldable pub loop : {A B : Type 0} → ℕ → (A → Reader (Turn A B)) → A → Reader B
loop zero P a s = lost s
loop (suc n) P a s = bind (P a s) (turn (loop n P))

unfoldable pub repeat : {A B : Type 0} → (A → Reader (Turn A B)) → A → Reader B
repeat P a s = loop (suc (length s)) P a s

-- one of some bytes, at once; and after blanks
abbrev pub BLANKS : List ℕ
BLANKS = 32 ∷ 9 ∷ 10 ∷ 13 ∷ []

abbrev pub is_blank : ℕ → Bool
is_blank b = member b BLANKS

unfoldable pub here : List ℕ → Reader ℕ
here ms [] = lost []
here ms (b ∷ s) = cond (member b ms) (got b s) (lost (b ∷ s))

unfoldable pub sign : List ℕ → Reader ℕ
sign ms [] = lost []
sign ms (b ∷ s) = cond (is_blank b) (sign ms s) (here ms (b ∷ s))

-- a word at once
unfoldable pub spell : List ℕ → Reader ℕ
spell [] s = got 0 s
spell (c ∷ w) s = bind (here (c ∷ []) s) (λ (b : ℕ). spell w)

-- the further digits of a number that is n so far, while it stays at most `top`; nothing follows a 0
abbrev pub is_digit : ℕ → Bool
is_digit b = leb 48 b && leb b 57

abbrev pub digit_on : ℕ → ℕ → ℕ
digit_on n b = 10 * n + (b - 48)

abbrev pub goes_on : ℕ → ℕ → ℕ → Bool
goes_on top n b = is_digit b && (ltb 0 n && leb (digit_on n b) top)

unfoldable pub digits : ℕ → ℕ → Reader ℕ
digits top n [] = got n []
digits top n (b ∷ s) = cond (goes_on top n b) (digits top (digit_on n b) s) (got n (b ∷ s))

-- one after the other up to the end, after which only blanks may stand
unfoldable pub series : {A : Type 0} → ℕ → (A → Reader A) → A → Reader A
series zero P a s = lost s
series (suc n) P a s = cond (all is_blank s) (got a []) (bind (P a s) (series n P))

unfoldable pub to_end : {A : Type 0} → (A → Reader A) → A → Reader A
to_end P a s = series (suc (length s)) P a s
