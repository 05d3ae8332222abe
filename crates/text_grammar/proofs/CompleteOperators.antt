-- What spells tokens is read token by token, and so what spells an operator without steps is read as that operator.
-- Assumes nothing.
use Prim.Native.Nat.{ℕ, zero, suc, ◌-◌, ◌/◌, ◌%◌, ◌<◌, ◌≤◌}
use mathlib.Core.Path.{◌≡◌, refl, ap, ◌∙◌, sym}
use mathlib.Core.Logic.{⊎_elim}
use mathlib.Core.Bool.{Bool, true, false, cond, not, ◌&&◌}
use mathlib.Core.List.{List, [], ◌∷◌, ◌++◌, append_assoc, append-nil}
use native.Mathlib.Omega.{arith}
use native.Mathlib.Nat.{div-lt_self}
use lib.Dec.{ltb, leb, lit<}
use lib.ListN.{length}
use borrow.Author.Tests.{le-leb, lt-ltb, not-true, leb-true}
use Rattle.base_lists.specs.Lists.{member, all}
use Rattle.base_lists.proofs.Build.{order, never}
use Rattle.base_lists.proofs.Tests.{both, both_of}
use Rattle.base_words.specs.Text.{word, natural, digit}
use Rattle.base_words.proofs.Digits.{natural_small, natural_more}
use Rattle.text_scan.specs.Reader.{Res, got, Reader, bind, ◌>>=◌, ◌>>◌, is_blank, is_digit, here, sign, spell, digits, digit_on, goes_on}
use Rattle.text_scan.specs.Reads.{after_blanks}
use Rattle.text_scan.proofs.Places.{sign_after}
use Rattle.text_scan.proofs.Exact.{either}
use Rattle.text_scan.proofs.ExactBytes.{here_in, member_first, no_blank_digit}
use Rattle.text_scan.proofs.Binding.{same_bind}
use Rattle.text_grammar.specs.Readers.{decimal, byte, queue, variable, variable_is_lem, operator, arrow, ways, deal_from, gather_from}
use Rattle.text_grammar.specs.Tokens.{Gap, tight, loose, must, Token, may_stand, Starts, Spells, none, more, op_tokens, way_tokens, queues}
use Rattle.sheet_operator.specs.Op.{latest, double, deal, gather}

-- the bytes w of the token that is being read, and then tokens, are read as a
pub record Runs {A : Type 0} (w : List ℕ) (ts : List Token) (P : Reader A) (a : A) : Type 0 where
  pub reads : (m r : List ℕ) → Spells ts m r → P (w ++ m) ≡ got a r

done_reads : {A : Type 0} (a : A) (m r : List ℕ) → Spells [] m r → got a m ≡ got a r
done_reads a m r none = refl

pub runs_done : {A : Type 0} {a : A} → Runs [] [] (got a) a
runs_done {A} {a} = record { reads = done_reads a }

-- one byte of it
pub runs_here : {A : Type 0} {c : ℕ} {w : List ℕ} {ts : List Token} (ms : List ℕ) (F : ℕ → Reader A) {a : A} → member c ms ≡ true →
    Runs w ts (F c) a → Runs (c ∷ w) ts (here ms >>= F) a
runs_here {A} {c} {w} {ts} ms F h f =
    record { reads = λ m r e. ap (λ (x : Res ℕ). bind x F) (here_in c ms (w ++ m) h) ∙ f.reads m r e }

-- some bytes of it
spell_reads : (v x : List ℕ) → spell v (v ++ x) ≡ got 0 x
unfolding spell
spell_reads [] x = refl
spell_reads (c ∷ v) x = ap (λ (y : Res ℕ). bind y (λ (b : ℕ). spell v)) (here_in c (c ∷ []) (v ++ x) (member_first c [])) ∙ spell_reads v x

pub runs_spell : {A : Type 0} (v : List ℕ) {w : List ℕ} {ts : List Token} {P : Reader A} {a : A} → Runs w ts P a → Runs (v ++ w) ts (spell v >> P) a
runs_spell v {w} {ts} {P} f =
    record { reads = λ m r e. ap (λ (l : List ℕ). (spell v >> P) l) (append_assoc v w m) ∙ ap (λ (y : Res ℕ). bind y (λ (b : ℕ). P)) (spell_reads v (w ++ m)) ∙ f.reads m r e }

-- a word's last bytes
pub runs_word : {A : Type 0} (v : List ℕ) {ts : List Token} {P : Reader A} {a : A} → Runs [] ts P a → Runs v ts (spell v >> P) a
runs_word v {ts} {P} f =
    record { reads = λ m r e. ap (λ (y : Res ℕ). bind y (λ (b : ℕ). P)) (spell_reads v m) ∙ f.reads m r e }

after_blanks_lem : (b : List ℕ) (c : ℕ) (x : List ℕ) → all is_blank b ≡ true → is_blank c ≡ false → after_blanks (b ++ (c ∷ x)) ≡ c ∷ x
after_blanks_lem [] c x h n = ap (λ (d : Bool). cond d (after_blanks x) (c ∷ x)) n
after_blanks_lem (a ∷ b) c x h n =
    let e = both (is_blank a) _ h in
    ap (λ (d : Bool). cond d (after_blanks (b ++ (c ∷ x))) (a ∷ (b ++ (c ∷ x)))) e.0 ∙ after_blanks_lem b c x e.1 n

pub all_blank : (g : Gap) (b : List ℕ) → may_stand g b ≡ true → all is_blank b ≡ true
all_blank tight b h = h
all_blank loose b h = h
all_blank must [] h = never h
all_blank must (x ∷ b) h = h

-- a byte of them after blanks
pub sign_first : (ms b : List ℕ) (c : ℕ) (x : List ℕ) → all is_blank b ≡ true → is_blank c ≡ false → member c ms ≡ true → sign ms (b ++ (c ∷ x)) ≡ got c x
sign_first ms b c x h n k = sign_after ms _ ∙ ap (here ms) (after_blanks_lem b c x h n) ∙ here_in c ms x k

sign_reads : (g : Gap) (c : ℕ) (w : List ℕ) (ms : List ℕ) → (member c ms && not (is_blank c)) ≡ true → (s m : List ℕ) →
    Starts (record { gap = g; bytes = c ∷ w }) s m → sign ms s ≡ got c (w ++ m)
sign_reads g c w ms h s m p =
    let k = both (member c ms) _ h in
    ap (sign ms) p.text ∙ sign_first ms p.blanks c (w ++ m) (all_blank g p.blanks p.free) (not-true (is_blank c) k.1) k.0

pub token_reads : {A : Type 0} (t : Token) (ts : List Token) (P : Reader A) (a : A) →
    ((s m r : List ℕ) → Starts t s m → Spells ts m r → P s ≡ got a r) → (s r : List ℕ) → Spells (t ∷ ts) s r → P s ≡ got a r
token_reads t ts P a f s r (more {m = m} p q) = f s m r p q

-- the next token, by its first byte
pub runs_sign : {A : Type 0} {g : Gap} {c : ℕ} {w : List ℕ} {ts : List Token} (ms : List ℕ) (F : ℕ → Reader A) {a : A} →
    (member c ms && not (is_blank c)) ≡ true → Runs w ts (F c) a → Runs [] (record { gap = g; bytes = c ∷ w } ∷ ts) (sign ms >>= F) a
runs_sign {A} {g} {c} {w} {ts} ms F {a} h f =
    record {
      reads = token_reads (record { gap = g; bytes = c ∷ w }) ts (sign ms >>= F) a
          (λ s m r p q. ap (λ (x : Res ℕ). bind x F) (sign_reads g c w ms h s m p) ∙ f.reads m r q);
    }

-- ---- decimals

pub digit_in : (n : ℕ) → n < 10 → member (digit n) (word "0123456789") ≡ true
digit_in zero h = refl
digit_in (suc zero) h = refl
digit_in (suc (suc zero)) h = refl
digit_in (suc (suc (suc zero))) h = refl
digit_in (suc (suc (suc (suc zero)))) h = refl
digit_in (suc (suc (suc (suc (suc zero))))) h = refl
digit_in (suc (suc (suc (suc (suc (suc zero)))))) h = refl
digit_in (suc (suc (suc (suc (suc (suc (suc zero))))))) h = refl
digit_in (suc (suc (suc (suc (suc (suc (suc (suc zero)))))))) h = refl
digit_in (suc (suc (suc (suc (suc (suc (suc (suc (suc zero))))))))) h = refl
digit_in (suc (suc (suc (suc (suc (suc (suc (suc (suc (suc n)))))))))) h = absurd (omega arith)

is_digit_lem : (n : ℕ) → n < 10 → is_digit (digit n) ≡ true
is_digit_lem n h = both_of (leb 48 (digit n)) (leb (digit n) 57) (le-leb 48 (digit n) (omega arith)) (le-leb (digit n) 57 (omega arith))

-- n's digits, read from the first on, come to n
module _ (top : ℕ) where
  start : (n : ℕ) → n < 10 → (s : List ℕ) → decimal top (digit n ∷ s) ≡ digits top n s
  start n h s =
      ap (λ (x : Res ℕ). bind x (λ (b : ℕ). digits top (b - 48))) (here_in (digit n) (word "0123456789") s (digit_in n h))
      ∙ ap (λ (k : ℕ). digits top k s) (back n)
    where
      back : (n : ℕ) → digit n - 48 ≡ n
      back n = omega arith

  goes_natural : (n : ℕ) → 10 ≤ n → n ≤ top → goes_on top (n / 10) (digit (n % 10)) ≡ true
  goes_natural n h l =
      both_of (is_digit (digit (n % 10))) (ltb 0 (n / 10) && leb (digit_on (n / 10) (digit (n % 10))) top) (is_digit_lem (n % 10) (omega arith))
      (both_of (ltb 0 (n / 10)) (leb (digit_on (n / 10) (digit (n % 10))) top) (lt-ltb 0 (n / 10) (omega arith))
      (le-leb (digit_on (n / 10) (digit (n % 10))) top (omega arith)))

  digits_goes : (n b : ℕ) (s : List ℕ) → goes_on top n b ≡ true → digits top n (b ∷ s) ≡ digits top (digit_on n b) s
  unfolding digits
  digits_goes n b s h = ap (λ (c : Bool). cond c (digits top (digit_on n b) s) (got n (b ∷ s))) h

  digits_holds : (n b : ℕ) (s : List ℕ) → is_digit b ≡ false → digits top n (b ∷ s) ≡ got n (b ∷ s)
  unfolding digits
  digits_holds n b s h =
      ap (λ (c : Bool). cond c (digits top (digit_on n b) s) (got n (b ∷ s))) (ap (λ (c : Bool). c && (ltb 0 n && leb (digit_on n b) top)) h)

  natural_in : (k n : ℕ) → n < k → n ≤ top → (s : List ℕ) → decimal top (natural n ++ s) ≡ digits top n s
  natural_in zero n l h s = absurd (omega arith)
  natural_in (suc k) n l h s =
      ⊎_elim (λ (o : n < 10). ap (λ (x : List ℕ). decimal top (x ++ s)) (natural_small n o) ∙ start n o s)
      (λ (o : 10 ≤ n).
      ap (λ (x : List ℕ). decimal top (x ++ s)) (natural_more n o)
      ∙ ap (decimal top) (append_assoc (natural (n / 10)) (digit (n % 10) ∷ []) s)
      ∙ natural_in k (n / 10) (let d = div-lt_self {n = n} {k = 10} (omega arith) (lit< tt) in omega arith) (omega arith) (digit (n % 10) ∷ s)
      ∙ digits_goes (n / 10) (digit (n % 10)) s (goes_natural n o h)
      ∙ ap (λ (x : ℕ). digits top x s) (omega arith))
      (order n 10)

  decimal_natural : (n : ℕ) → n ≤ top → (s : List ℕ) → decimal top (natural n ++ s) ≡ digits top n s
  decimal_natural n h s = natural_in (suc n) n (omega arith) h s

  blank_no_digit : (b : ℕ) → is_blank b ≡ true → is_digit b ≡ false
  blank_no_digit b h = ⊎_elim (λ d. never (sym (no_blank_digit b d) ∙ h)) (λ d. d) (either (is_digit b))

  -- the digits end where a token begins that is no digit
  digits_closed : (n : ℕ) (b : List ℕ) (m : ℕ) (y : List ℕ) → all is_blank b ≡ true → is_digit m ≡ false →
      digits top n (b ++ (m ∷ y)) ≡ got n (b ++ (m ∷ y))
  digits_closed n [] m y h d = digits_holds n m y d
  digits_closed n (a ∷ b) m y h d = digits_holds n a (b ++ (m ∷ y)) (blank_no_digit a (both (is_blank a) _ h).0)

-- a decimal ends where a token stands that no digit begins
pub decimal_closed : (top n : ℕ) (g : Gap) (m : ℕ) (v s y : List ℕ) → n ≤ top → is_digit m ≡ false → Starts (record { gap = g; bytes = m ∷ v }) s y →
    decimal top (natural n ++ s) ≡ got n s
decimal_closed top n g m v s y l e p =
    decimal_natural top n l s ∙ ap (digits top n) p.text
    ∙ digits_closed top n p.blanks m (v ++ y) (all_blank g p.blanks p.free) e ∙ ap (got n) (sym p.text)

-- a decimal, and then such a token
pub runs_decimal : {A : Type 0} (top : ℕ) {n : ℕ} {g : Gap} {m : ℕ} {v : List ℕ} {ts : List Token} (K : ℕ → Reader A) {a : A} →
    n ≤ top → is_digit m ≡ false → Runs [] (record { gap = g; bytes = m ∷ v } ∷ ts) (K n) a →
    Runs (natural n) (record { gap = g; bytes = m ∷ v } ∷ ts) (decimal top >>= K) a
runs_decimal {A} top {n} {g} {m} {v} {ts} K {a} l e f =
    record {
      reads = token_reads (record { gap = g; bytes = m ∷ v }) ts (λ (s : List ℕ). (decimal top >>= K) (natural n ++ s)) a
          (λ s y r p q. ap (λ (x : Res ℕ). bind x K) (decimal_closed top n g m v s y l e p) ∙ f.reads s r (more p q));
    }

-- the same reader otherwise bracketed
pub runs_same : {A : Type 0} {w : List ℕ} {ts : List Token} {P Q : Reader A} {a : A} → ((s : List ℕ) → P s ≡ Q s) → Runs w ts Q a → Runs w ts P a
runs_same {A} {w} e f = record { reads = λ m r h. e (w ++ m) ∙ f.reads m r h }

-- the same answer
pub runs_as : {A : Type 0} {w : List ℕ} {ts : List Token} {P : Reader A} {a : A} (b : A) → a ≡ b → Runs w ts P a → Runs w ts P b
runs_as b e f = record { reads = λ m r h. f.reads m r h ∙ ap (λ x. got x r) e }

-- a reader with tokens of its own, and then more
pub record Split (us ts : List Token) (s r : List ℕ) : Type 0 where
  pub mid : List ℕ
  pub first : Spells us s mid
  pub second : Spells ts mid r

pub spells_split : (us ts : List Token) (s r : List ℕ) → Spells (us ++ ts) s r → Split us ts s r
spells_split [] ts s r h = record { mid = s; first = none; second = h }
spells_split (u ∷ us) ts s r (more {m = m} p q) =
    let d = spells_split us ts m r q in
    record { mid = d.mid; first = more p d.first; second = d.second }

pub runs_sub : {A B : Type 0} (us : List Token) {ts : List Token} {P : Reader A} {x : A} (K : A → Reader B) {b : B} → Runs [] us P x → Runs [] ts (K x) b → Runs [] (us ++ ts) (P >>= K) b
runs_sub {A} {B} us {ts} {P} {x} K f g =
    record {
      reads = λ m r h. let d = spells_split us ts m r h in
          ap (λ (y : Res A). bind y K) (f.reads m d.mid d.first) ∙ g.reads d.mid r d.second;
    }

-- ---- names

module _ {A : Type 0} {n : ℕ} {h : Gap} {m : ℕ} {v : List ℕ} {ts : List Token} (K : ℕ → Reader A) {a : A} where
  pub runs_queue : {g : Gap} → n ≤ 23 → is_digit m ≡ false → Runs [] (record { gap = h; bytes = m ∷ v } ∷ ts) (K n) a →
      Runs [] (record { gap = g; bytes = 113 ∷ natural n } ∷ record { gap = h; bytes = m ∷ v } ∷ ts) (queue >>= K) a
  runs_queue {g} l e f =
      runs_same (λ s. same_bind (sign (word "q") s) (λ (b : ℕ). decimal 23) K)
      (runs_sign (word "q") (λ (b : ℕ). decimal 23 >>= K) refl (runs_decimal 23 K l e f))

  pub runs_variable : n ≤ 15 → is_digit m ≡ false → Runs [] (record { gap = h; bytes = m ∷ v } ∷ ts) (K n) a →
      Runs (118 ∷ natural n) (record { gap = h; bytes = m ∷ v } ∷ ts) (variable >>= K) a
  runs_variable l e f =
      runs_same (λ s. same_bind (here (word "v") s) (λ (b : ℕ). decimal 15) K)
      (runs_here (word "v") (λ (b : ℕ). decimal 15 >>= K) refl (runs_decimal 15 K l e f))

pub runs_arrow : {A : Type 0} {g : Gap} {ts : List Token} {P : Reader A} {a : A} → Runs [] ts P a → Runs [] (record { gap = g; bytes = word "<-" } ∷ ts) (arrow >> P) a
runs_arrow {A} {g} {ts} {P} f =
    runs_same (λ s. same_bind (sign (word "<") s) (λ (b : ℕ). here (word "-")) (λ (b : ℕ). P))
    (runs_sign (word "<") (λ (b : ℕ). here (word "-") >> P) refl (runs_here (word "-") (λ (b : ℕ). P) refl f))

-- a number begins with a digit
pub record Begins (n : ℕ) : Type 0 where
  pub first : ℕ
  pub rest : List ℕ
  pub text : natural n ≡ first ∷ rest
  pub digit : is_digit first ≡ true
  pub least : 1 ≤ n → 49 ≤ first

begins_in : (k n : ℕ) → n < k → Begins n
begins_in zero n l = absurd (omega arith)
begins_in (suc k) n l =
    ⊎_elim (λ (o : n < 10). record { first = digit n; rest = []; text = natural_small n o; digit = is_digit_lem n o; least = λ h. omega arith })
    (λ (o : 10 ≤ n).
    let b = begins_in k (n / 10) (let d = div-lt_self {n = n} {k = 10} (omega arith) (lit< tt) in omega arith) in
    record {
      first = b.first;
      rest = b.rest ++ (digit (n % 10) ∷ []);
      text = natural_more n o ∙ ap (λ (x : List ℕ). x ++ (digit (n % 10) ∷ [])) b.text;
      digit = b.digit;
      least = λ h. b.least (omega arith);
    })
    (order n 10)

pub begins : (n : ℕ) → Begins n
begins n = begins_in (suc n) n (omega arith)

byte_after : (s : List ℕ) → byte s ≡ decimal 255 (after_blanks s)
byte_after s = ap (λ (x : Res ℕ). bind x (λ (b : ℕ). digits 255 (b - 48))) (sign_after (word "0123456789") s)

number_after_lem : (b : List ℕ) (n : ℕ) (y : List ℕ) → all is_blank b ≡ true → after_blanks (b ++ (natural n ++ y)) ≡ natural n ++ y
number_after_lem b n y h =
    let e = begins n in
    rw e.text (after_blanks_lem b e.first (e.rest ++ y) h (no_blank_digit e.first e.digit))

module _ {A : Type 0} {n : ℕ} {g h : Gap} {m : ℕ} {v : List ℕ} {ts : List Token} (K : ℕ → Reader A) {a : A} where
  pub runs_byte : n ≤ 255 → is_digit m ≡ false → Runs [] (record { gap = h; bytes = m ∷ v } ∷ ts) (K n) a →
      Runs [] (record { gap = g; bytes = natural n } ∷ record { gap = h; bytes = m ∷ v } ∷ ts) (byte >>= K) a
  runs_byte l e f =
      record {
        reads = token_reads (record { gap = g; bytes = natural n }) (record { gap = h; bytes = m ∷ v } ∷ ts) (byte >>= K) a
            (λ s y r p q.
            ap (λ (x : Res ℕ). bind x K)
            (ap byte p.text ∙ byte_after _ ∙ ap (decimal 255) (number_after_lem p.blanks n y (all_blank g p.blanks p.free)))
            ∙ (runs_decimal 255 K l e f).reads y r q);
      }

-- ---- Latest, Double

pub runs_latest : (p v f : ℕ) → p ≤ 23 → v ≤ 15 → f ≤ 255 → Runs [] (op_tokens (latest p v f)) operator (latest p v f)
runs_latest p v f hp hv hf =
    runs_sign _ _ refl (runs_sign _ _ refl (runs_variable _ hv refl (runs_sign _ _ refl (runs_arrow (runs_sign _ _ refl (runs_word (word "atest")
    (runs_sign _ _ refl (runs_byte _ hf refl (runs_sign _ _ refl (runs_sign _ _ refl (runs_queue _ hp refl (runs_sign _ _ refl runs_done))))))))))))

pub runs_double : (p q r : ℕ) → p ≤ 23 → q ≤ 23 → r ≤ 23 → Runs [] (op_tokens (double p q r)) operator (double p q r)
runs_double p q r hp hq hr =
    runs_sign _ _ refl (runs_sign _ _ refl (runs_decimal 23 _ hq refl (runs_sign _ _ refl (runs_sign _ _ refl (runs_decimal 23 _ hr refl
    (runs_sign _ _ refl (runs_arrow (runs_sign _ _ refl (runs_word (word "ouble") (runs_sign _ _ refl
    (runs_queue _ hp refl (runs_sign _ _ refl runs_done))))))))))))

-- ---- Deal, Gather

runs_is : {A : Type 0} (v : ℕ) {ts : List Token} {P : Reader A} {a : A} → Runs [] ts P a → Runs (118 ∷ natural v) ts (variable_is_lem v >> P) a
runs_is v {ts} {P} f =
    runs_same (λ s. same_bind (here (word "v") s) (λ (b : ℕ). spell (natural v)) (λ (b : ℕ). P))
    (runs_here (word "v") (λ (b : ℕ). spell (natural v) >> P) refl (runs_word (natural v) f))

runs_ways : {A : Type 0} (k : ℕ) (qs us : List ℕ) (g : Gap) {w : List ℕ} {ts : List Token} (K : List ℕ → Reader A) {a : A} → queues us ≡ true → length us ≤ k →
    Runs w ts (K (qs ++ us)) a → Runs [] (way_tokens us ++ (record { gap = g; bytes = 36 ∷ w } ∷ ts)) (ways k qs K) a
runs_ways zero qs [] g K h l f = runs_sign _ _ refl (rw append-nil at f)
runs_ways (suc k) qs [] g K h l f = runs_sign _ _ refl (rw append-nil at f)
runs_ways zero qs (q ∷ us) g K h l f = absurd (omega arith)
runs_ways (suc k) qs (q ∷ us) g K h l f =
    let e = both (leb q 23) _ h in
    runs_sign _ _ refl (runs_decimal 23 _ (leb-true q 23 e.0) refl (runs_sign _ _ refl
    (runs_ways k (qs ++ (q ∷ [])) us g K e.1 (omega arith) (rw (append_assoc qs (q ∷ []) us) f))))

pub runs_deal : (v p q r : ℕ) (us : List ℕ) → v ≤ 15 → p ≤ 23 → q ≤ 23 → r ≤ 23 → queues us ≡ true → length us ≤ 2 →
    Runs [] (op_tokens (deal v p (q ∷ r ∷ us))) operator (deal v p (q ∷ r ∷ us))
runs_deal v p q r us hv hp hq hr hm l =
    runs_sign _ _ refl (runs_sign _ _ refl (runs_decimal 23 _ hq refl (runs_sign _ _ refl (runs_sign _ _ refl (runs_decimal 23 _ hr refl
    (runs_sign _ _ refl (runs_ways 2 (q ∷ r ∷ []) us loose deal_from hm l
    (runs_variable _ hv refl (runs_sign _ _ refl (runs_arrow (runs_sign _ _ refl (runs_word (word "eal") (runs_sign _ _ refl
    (runs_queue _ hp refl (runs_sign _ _ refl (runs_sign _ _ refl (runs_is v (runs_sign _ _ refl runs_done))))))))))))))))))

pub runs_gather : (v q a b : ℕ) (us : List ℕ) → v ≤ 15 → q ≤ 23 → a ≤ 23 → b ≤ 23 → queues us ≡ true → length us ≤ 2 →
    Runs [] (op_tokens (gather v q (a ∷ b ∷ us))) operator (gather v q (a ∷ b ∷ us))
runs_gather v q a b us hv hq ha hb hm l =
    runs_sign _ _ refl (runs_sign _ _ refl (runs_decimal 23 _ hq refl (runs_sign _ _ refl (runs_sign _ _ refl
    (runs_variable _ hv refl (runs_sign _ _ refl (runs_arrow (runs_sign _ _ refl (runs_word (word "ather") (runs_sign _ _ refl
    (runs_queue _ ha refl (runs_sign _ _ refl (runs_queue _ hb refl (runs_sign _ _ refl
    (runs_ways 2 (a ∷ b ∷ []) us loose (gather_from v q) hm l (runs_is v (runs_sign _ _ refl runs_done)))))))))))))))))
