-- What is read as an operator spells that operator's tokens.
-- Assumes nothing.
use Prim.Native.Nat.{ℕ, suc, ◌+◌, ◌-◌, ◌/◌, ◌%◌, ◌<◌, ◌≤◌}
use mathlib.Core.Path.{◌≡◌, refl, ap, ◌∙◌, sym}
use mathlib.Core.Logic.{⊎_elim}
use mathlib.Core.Bool.{Bool, true, cond, ◌&&◌, ◌||◌}
use mathlib.Core.List.{List, [], ◌∷◌, ◌++◌, append_assoc, append-nil}
use native.Mathlib.Omega.{arith}
use lib.Dec.{eqb, ltb, leb}
use lib.IntN.{ℤ, pos, negsuc}
use borrow.Author.Tests.{leb-true, ltb-true, eqb-true}
use Rattle.base_lists.specs.Lists.{member, all}
use Rattle.base_lists.proofs.Build.{never}
use Rattle.base_lists.proofs.Tests.{both, or_cases}
use Rattle.base_words.specs.Text.{word, natural, integer, digit}
use Rattle.base_words.proofs.Digits.{natural_small, natural_more}
use Rattle.text_scan.specs.Reader.{Res, got, Reader, bind, ◌>>=◌, ◌>>◌, is_blank, is_digit, here, sign, spell, digits, digit_on, goes_on}
use Rattle.text_scan.specs.Reads.{after_blanks}
use Rattle.text_scan.proofs.Places.{sign_after}
use Rattle.text_scan.proofs.Exact.{either}
use Rattle.text_scan.proofs.Sound.{between, here_was, at_most, digits_small}
use Rattle.text_scan.proofs.Binding.{same_bind}
use Rattle.text_grammar.specs.Readers.{decimal, byte, queue, variable, arrow, number, negative}
use Rattle.text_grammar.specs.Tokens.{Gap, tight, loose, Token, may_stand, Starts, Spells, none, more, Wide}
use Rattle.text_grammar.proofs.CompleteSteps.{bits_of, minus}

-- ---- tokens so far, and the bytes w of the next one

pub spells_then : {ts us : List Token} {s m r : List ℕ} → Spells ts s m → Spells us m r → Spells (ts ++ us) s r
spells_then none q = q
spells_then (more p q) t = more p (spells_then q t)

pub record Sofar (ts : List Token) (w s₀ s : List ℕ) : Type 0 where
  pub at : List ℕ
  pub done : Spells ts s₀ at
  pub blanks : List ℕ
  pub free : all is_blank blanks ≡ true
  pub text : at ≡ blanks ++ (w ++ s)

-- a reader tells T of what it gets, after tokens, and inside of one
pub record Tells {B : Type 0} (T : B → List ℕ → List ℕ → Type 0) (ts : List Token) (P : Reader B) : Type 0 where
  pub tells : (s₀ s : List ℕ) (b : B) (r : List ℕ) → Spells ts s₀ s → P s ≡ got b r → T b s₀ r

pub record Inside {B : Type 0} (T : B → List ℕ → List ℕ → Type 0) (ts : List Token) (w : List ℕ) (P : Reader B) : Type 0 where
  pub tells : (s₀ s : List ℕ) (b : B) (r : List ℕ) → Sofar ts w s₀ s → P s ≡ got b r → T b s₀ r

-- something for each byte of a list
abbrev pub Each : List ℕ → (ℕ → Type 0) → Type 0
Each [] X = Unit {0}
Each (m ∷ ms) X = X m × Each ms X

pub each_of : (ms : List ℕ) (X : ℕ → Type 0) → Each ms X → (c : ℕ) → member c ms ≡ true → X c
each_of [] X h c e = never e
each_of (m ∷ ms) X h c e = ⊎_elim (λ f. rw (eqb-true c m f) h.0) (λ f. each_of ms X h.1 c f) (or_cases (eqb c m) _ e)

pub blanks_of : (s : List ℕ) → Starts (record { gap = tight; bytes = [] }) s (after_blanks s)
blanks_of [] = record { blanks = []; free = refl; text = refl }
blanks_of (a ∷ s) =
    ⊎_elim
    (λ h. let b = blanks_of s in
    record {
      blanks = a ∷ b.blanks;
      free = ap (λ (c : Bool). c && all is_blank b.blanks) h ∙ b.free;
      text = ap (λ (l : List ℕ). a ∷ l) b.text ∙ ap (λ (c : Bool). a ∷ (b.blanks ++ cond true (after_blanks s) (a ∷ s))) h
          ∙ ap (λ (c : Bool). a ∷ (b.blanks ++ cond c (after_blanks s) (a ∷ s))) (sym h);
    })
    (λ h. record { blanks = []; free = refl; text = ap (λ (c : Bool). cond c (after_blanks s) (a ∷ s)) (sym h) })
    (either (is_blank a))

module _ {B : Type 0} {T : B → List ℕ → List ℕ → Type 0} where
  pub tells_done : {ts : List Token} {b : B} → ((s r : List ℕ) → Spells ts s r → T b s r) → Tells T ts (got b)
  tells_done {ts} {b} f =
      record { tells = λ s₀ s c r h e. let i : b ≡ c = cc in let j : s ≡ r = cc in rw (← i) (rw (← j) (f s₀ s h)) }

  pub tells_sign : {ts : List Token} (ms : List ℕ) (F : ℕ → Reader B) → Each ms (λ (c : ℕ). Inside T ts (c ∷ []) (F c)) → Tells T ts (sign ms >>= F)
  tells_sign {ts} ms F each =
      record {
        tells = λ s₀ s b r h e.
            let f = between (sign ms s) F e in
            let w = here_was ms (after_blanks s) (sym (sign_after ms s) ∙ f.first) in
            let k = blanks_of s in
            (each_of ms (λ (c : ℕ). Inside T ts (c ∷ []) (F c)) each f.value w.one).tells s₀ f.rest b r
            (record { at = s; done = h; blanks = k.blanks; free = k.free; text = k.text ∙ ap (λ (l : List ℕ). k.blanks ++ l) w.text })
            f.second;
      }

  pub inside_here : {ts : List Token} (v : List ℕ) (ms : List ℕ) (F : ℕ → Reader B) → Each ms (λ (c : ℕ). Inside T ts (v ++ (c ∷ [])) (F c)) →
      Inside T ts v (here ms >>= F)
  inside_here {ts} v ms F each =
      record {
        tells = λ s₀ s b r h e.
            let f = between (here ms s) F e in
            let w = here_was ms s f.first in
            (each_of ms (λ (c : ℕ). Inside T ts (v ++ (c ∷ [])) (F c)) each f.value w.one).tells s₀ f.rest b r
            (record {
              at = h.at;
              done = h.done;
              blanks = h.blanks;
              free = h.free;
              text = h.text ∙ ap (λ (l : List ℕ). h.blanks ++ (v ++ l)) w.text
                  ∙ ap (λ (l : List ℕ). h.blanks ++ l) (sym (append_assoc v (f.value ∷ []) f.rest));
            })
            f.second;
      }

  -- the token ends
  pub inside_ends : (g : Gap) → ((b : List ℕ) → all is_blank b ≡ true → may_stand g b ≡ true) → {ts : List Token} {v : List ℕ} {P : Reader B} →
      Tells T (ts ++ (record { gap = g; bytes = v } ∷ [])) P → Inside T ts v P
  inside_ends g free {ts} {v} {P} f =
      record {
        tells = λ s₀ s b r h e. f.tells s₀ s b r
            (spells_then h.done (more (record { blanks = h.blanks; free = free h.blanks h.free; text = h.text }) none)) e;
      }

  pub inside_tight : {ts : List Token} {v : List ℕ} {P : Reader B} → Tells T (ts ++ (record { gap = tight; bytes = v } ∷ [])) P → Inside T ts v P
  inside_tight f = inside_ends tight (λ b h. h) f

  pub inside_loose : {ts : List Token} {v : List ℕ} {P : Reader B} → Tells T (ts ++ (record { gap = loose; bytes = v } ∷ [])) P → Inside T ts v P
  inside_loose f = inside_ends loose (λ b h. h) f

-- ---- decimals

div_ten : (k b : ℕ) → 48 ≤ b → b ≤ 57 → digit_on k b / 10 ≡ k
div_ten k b l u = omega arith

mod_ten : (k b : ℕ) → 48 ≤ b → b ≤ 57 → digit (digit_on k b % 10) ≡ b
mod_ten k b l u = omega arith

digits_text : (top k : ℕ) (t : List ℕ) {n : ℕ} {r : List ℕ} → digits top k t ≡ got n r → natural k ++ t ≡ natural n ++ r
unfolding digits
digits_text top k [] {n} {r} e = let i : k ≡ n = cc in let j : [] ≡ r = cc in rw (i, ← j)
digits_text top k (b ∷ t) {n} {r} e =
    ⊎_elim
    (λ g. let d = both (is_digit b) _ g in
    let z = ltb-true 0 k (both (ltb 0 k) _ d.1).0 in
    let l = leb-true 48 b (both (leb 48 b) _ d.0).0 in
    let u = leb-true b 57 (both (leb 48 b) _ d.0).1 in
    sym (ap (λ (x : List ℕ). x ++ t) (natural_more (digit_on k b) (omega arith))
    ∙ ap (λ (x : ℕ). (natural x ++ (digit (digit_on k b % 10) ∷ [])) ++ t) (div_ten k b l u)
    ∙ ap (λ (x : ℕ). (natural k ++ (x ∷ [])) ++ t) (mod_ten k b l u)
    ∙ append_assoc (natural k) (b ∷ []) t)
    ∙ digits_text top (digit_on k b) t (sym (ap (λ (c : Bool). cond c (digits top (digit_on k b) t) (got k (b ∷ t))) g) ∙ e))
    (λ g. let f : got k (b ∷ t) ≡ got n r = sym (ap (λ (c : Bool). cond c (digits top (digit_on k b) t) (got k (b ∷ t))) g) ∙ e in
    let i : k ≡ n = cc in let j : b ∷ t ≡ r = cc in rw (i, ← j))
    (either (goes_on top k b))

first_digit : (b : ℕ) → member b (word "0123456789") ≡ true → natural (b - 48) ≡ b ∷ []
first_digit b h =
    let u = at_most (word "0123456789") b 57 refl h in
    let l = at_least b h in
    natural_small (b - 48) (omega arith) ∙ ap (λ (x : ℕ). x ∷ []) (omega arith)
  where
    at_least : (b : ℕ) → member b (word "0123456789") ≡ true → 48 ≤ b
    at_least b h =
        each_of (word "0123456789") (λ (c : ℕ). 48 ≤ c)
        (omega arith, (omega arith, (omega arith, (omega arith, (omega arith, (omega arith, (omega arith, (omega arith, (omega arith, (omega arith, tt)))))))))) b h

pub decimal_text : (top : ℕ) (s : List ℕ) {n : ℕ} {r : List ℕ} → decimal top s ≡ got n r → s ≡ natural n ++ r
decimal_text top s e =
    let f = between (here (word "0123456789") s) (λ (b : ℕ). digits top (b - 48)) e in
    let w = here_was (word "0123456789") s f.first in
    w.text ∙ ap (λ (l : List ℕ). l ++ f.rest) (sym (first_digit f.value w.one)) ∙ digits_text top (f.value - 48) f.rest f.second

pub decimal_most : (top : ℕ) → 9 ≤ top → (s : List ℕ) {n : ℕ} {r : List ℕ} → decimal top s ≡ got n r → n ≤ top
decimal_most top h s e =
    let f = between (here (word "0123456789") s) (λ (b : ℕ). digits top (b - 48)) e in
    let u = at_most (word "0123456789") f.value 57 refl (here_was (word "0123456789") s f.first).one in
    digits_small top (f.value - 48) f.rest (omega arith) f.second

module _ {B : Type 0} {T : B → List ℕ → List ℕ → Type 0} where
  pub inside_decimal : (top : ℕ) → 9 ≤ top → {ts : List Token} (v : List ℕ) (K : ℕ → Reader B) →
      ((n : ℕ) → n ≤ top → Inside T ts (v ++ natural n) (K n)) → Inside T ts v (decimal top >>= K)
  inside_decimal top l {ts} v K f =
      record {
        tells = λ s₀ s b r h e.
            let g = between (decimal top s) K e in
            (f g.value (decimal_most top l s g.first)).tells s₀ g.rest b r
            (record {
              at = h.at;
              done = h.done;
              blanks = h.blanks;
              free = h.free;
              text = h.text ∙ ap (λ (l : List ℕ). h.blanks ++ (v ++ l)) (decimal_text top s g.first)
                  ∙ ap (λ (l : List ℕ). h.blanks ++ l) (sym (append_assoc v (natural g.value) g.rest));
            })
            g.second;
      }

  pub inside_same : {ts : List Token} {v : List ℕ} {P Q : Reader B} → ((s : List ℕ) → P s ≡ Q s) → Inside T ts v Q → Inside T ts v P
  inside_same e f = record { tells = λ s₀ s b r h g. f.tells s₀ s b r h (sym (e s) ∙ g) }

  pub inside_spell : {ts : List Token} (v w : List ℕ) (P : Reader B) → Inside T ts (v ++ w) P → Inside T ts v (spell w >> P)
  unfolding spell
  inside_spell v [] P f = rw append-nil at f
  inside_spell {ts} v (c ∷ w) P f =
      inside_same (λ s. same_bind (here (c ∷ []) s) (λ (b : ℕ). spell w) (λ (b : ℕ). P))
      (inside_here v (c ∷ []) (λ (b : ℕ). spell w >> P)
      (inside_spell (v ++ (c ∷ [])) w P (rw (append_assoc v (c ∷ []) w) f), tt))

  pub tells_same : {ts : List Token} {P Q : Reader B} → ((s : List ℕ) → P s ≡ Q s) → Tells T ts Q → Tells T ts P
  tells_same e f = record { tells = λ s₀ s b r h g. f.tells s₀ s b r h (sym (e s) ∙ g) }

  pub tells_queue : {ts : List Token} (K : ℕ → Reader B) → ((n : ℕ) → n ≤ 23 → Inside T ts (113 ∷ natural n) (K n)) → Tells T ts (queue >>= K)
  tells_queue K f =
      tells_same (λ s. same_bind (sign (word "q") s) (λ (b : ℕ). decimal 23) K)
      (tells_sign (word "q") (λ (b : ℕ). decimal 23 >>= K) (inside_decimal 23 (omega arith) (113 ∷ []) K f, tt))

  pub inside_variable : {ts : List Token} (v : List ℕ) (K : ℕ → Reader B) → ((n : ℕ) → n ≤ 15 → Inside T ts ((v ++ (118 ∷ [])) ++ natural n) (K n)) →
      Inside T ts v (variable >>= K)
  inside_variable v K f =
      inside_same (λ s. same_bind (here (word "v") s) (λ (b : ℕ). decimal 15) K)
      (inside_here v (word "v") (λ (b : ℕ). decimal 15 >>= K) (inside_decimal 15 (omega arith) (v ++ (118 ∷ [])) K f, tt))

  pub tells_arrow : {ts : List Token} (P : Reader B) → Inside T ts (word "<-") P → Tells T ts (arrow >> P)
  tells_arrow P f =
      tells_same (λ s. same_bind (sign (word "<") s) (λ (b : ℕ). here (word "-")) (λ (b : ℕ). P))
      (tells_sign (word "<") (λ (b : ℕ). here (word "-") >> P) (inside_here (word "<") (word "-") (λ (b : ℕ). P) (f, tt), tt))

  -- a byte stands for itself after blanks
  pub tells_byte : {ts : List Token} (K : ℕ → Reader B) → ((n : ℕ) → n ≤ 255 → Inside T ts (natural n) (K n)) → Tells T ts (byte >>= K)
  tells_byte {ts} K f =
      record {
        tells = λ s₀ s b r h e.
            let k = blanks_of s in
            let g = between (byte s) K e in
            let i = sym (ap (λ (x : Res ℕ). bind x (λ (b : ℕ). digits 255 (b - 48))) (sign_after (word "0123456789") s)) ∙ g.first in
            (f g.value (decimal_most 255 (omega arith) (after_blanks s) i)).tells s₀ g.rest b r
            (record {
              at = s;
              done = h;
              blanks = k.blanks;
              free = k.free;
              text = k.text ∙ ap (λ (l : List ℕ). k.blanks ++ l) (decimal_text 255 (after_blanks s) i);
            })
            g.second;
      }

-- ---- signed numbers

digits_least : (top k : ℕ) (t : List ℕ) {n : ℕ} {r : List ℕ} → digits top k t ≡ got n r → k ≤ n
unfolding digits
digits_least top k [] {n} {r} e = let i : k ≡ n = cc in omega arith
digits_least top k (b ∷ t) {n} {r} e =
    ⊎_elim
    (λ g. let h = digits_least top (digit_on k b) t (sym (ap (λ (c : Bool). cond c (digits top (digit_on k b) t) (got k (b ∷ t))) g) ∙ e) in omega arith)
    (λ g. let f : got k (b ∷ t) ≡ got n r = sym (ap (λ (c : Bool). cond c (digits top (digit_on k b) t) (got k (b ∷ t))) g) ∙ e in
    let i : k ≡ n = cc in omega arith)
    (either (goes_on top k b))

-- a number that was read
pub record IsNumber (s : List ℕ) (n : ℕ) (r : List ℕ) : Type 0 where
  pub value : ℤ
  pub wide : Wide value
  pub bits : n ≡ bits_of value
  pub text : s ≡ integer value ++ r

is_negative : (s : List ℕ) (n : ℕ) (r : List ℕ) → negative s ≡ got n r → IsNumber (45 ∷ s) n r
unfolding integer
is_negative s n r e =
    let f = between (here (word "123456789") s) (λ (b : ℕ). digits 2147483648 (b - 48) >>= minus) e in
    let w = here_was (word "123456789") s f.first in
    let g = between (digits 2147483648 (f.value - 48) f.rest) minus f.second in
    let m = g.value in
    let l = each_of (word "123456789") (λ (c : ℕ). 49 ≤ c) (omega arith, (omega arith, (omega arith, (omega arith, (omega arith, (omega arith, (omega arith, (omega arith, (omega arith, tt))))))))) f.value w.one in
    let u = at_most (word "123456789") f.value 57 refl w.one in
    let q = digits_least 2147483648 (f.value - 48) f.rest g.first in
    let t = digits_small 2147483648 (f.value - 48) f.rest (omega arith) g.first in
    let x : got (4294967295 - (m - 1)) g.rest ≡ got n r = g.second in
    let y : 4294967295 - (m - 1) ≡ n = cc in
    let z : g.rest ≡ r = cc in
    let d : suc (m - 1) ≡ m = omega arith in
    record {
      value = negsuc (m - 1);
      wide = omega arith;
      bits = omega arith;
      text = ap (λ (l : List ℕ). 45 ∷ l)
          (w.text ∙ ap (λ (l : List ℕ). l ++ f.rest) (sym (natural_small (f.value - 48) (omega arith) ∙ ap (λ (x : ℕ). x ∷ []) (omega arith)))
          ∙ digits_text 2147483648 (f.value - 48) f.rest g.first ∙ ap (λ (i : ℕ). natural i ++ g.rest) (sym d) ∙ ap (λ (l : List ℕ). natural (suc (m - 1)) ++ l) z);
    }

is_positive : (c : ℕ) (s : List ℕ) (n : ℕ) (r : List ℕ) → member c (word "0123456789") ≡ true → digits 2147483647 (c - 48) s ≡ got n r → IsNumber (c ∷ s) n r
unfolding integer
is_positive c s n r h e =
    let u = at_most (word "0123456789") c 57 refl h in
    let t = digits_small 2147483647 (c - 48) s (omega arith) e in
    record {
      value = pos n;
      wide = omega arith;
      bits = refl;
      text = ap (λ (l : List ℕ). l ++ s) (sym (first_digit c h)) ∙ digits_text 2147483647 (c - 48) s e;
    }

number_by : (c : ℕ) (s : List ℕ) (n : ℕ) (r : List ℕ) → member c (word "-0123456789") ≡ true →
    cond (eqb c 45) negative (digits 2147483647 (c - 48)) s ≡ got n r → IsNumber (c ∷ s) n r
number_by c s n r h e =
    ⊎_elim
    (λ g. rw (eqb-true c 45 g) (is_negative s n r (sym (ap (λ (b : Bool). cond b negative (digits 2147483647 (c - 48)) s) g) ∙ e)))
    (λ g. is_positive c s n r (sym (ap (λ (b : Bool). b || member c (word "0123456789")) g) ∙ h) (sym (ap (λ (b : Bool). cond b negative (digits 2147483647 (c - 48)) s) g) ∙ e))
    (either (eqb c 45))

module _ {B : Type 0} {T : B → List ℕ → List ℕ → Type 0} where
  pub tells_number : {ts : List Token} (K : ℕ → Reader B) → ((z : ℤ) → Wide z → Inside T ts (integer z) (K (bits_of z))) → Tells T ts (number >>= K)
  tells_number {ts} K f =
      record {
        tells = λ s₀ s b r h e.
            let k = blanks_of s in
            let g = between (number s) K e in
            let i = between (sign (word "-0123456789") s) (λ (b : ℕ). cond (eqb b 45) negative (digits 2147483647 (b - 48))) g.first in
            let w = here_was (word "-0123456789") (after_blanks s) (sym (sign_after (word "-0123456789") s) ∙ i.first) in
            let n = number_by i.value i.rest g.value g.rest w.one i.second in
            (f n.value n.wide).tells s₀ g.rest b r
            (record {
              at = s;
              done = h;
              blanks = k.blanks;
              free = k.free;
              text = k.text ∙ ap (λ (l : List ℕ). k.blanks ++ l) (w.text ∙ n.text);
            })
            (sym (ap (λ (x : ℕ). K x g.rest) n.bits) ∙ g.second);
      }
