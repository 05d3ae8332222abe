-- What the program keeps of a list of names is what it would keep of the list; and the ways, with what comes after them.
-- Assumes nothing.
use Prim.Native.Nat.{ℕ, zero, suc}
use mathlib.Core.Path.{◌≡◌, refl, ap}
use mathlib.Core.Bool.{Bool, true, false, cond}
use mathlib.Core.List.{List}
use lib.Dec.{eqb}
use Rattle.base_words.specs.Text.{word}
use Rattle.text_scan.specs.Reader.{Res, got, lost, Reader, bind, ◌>>=◌, ◌>>◌, Turn, again, last, repeat, sign}
use Rattle.text_scan.proofs.Mapped.{map_turn, repeat_mapped}
use Rattle.text_grammar.specs.Readers.{decimal, name_turn, snoc, ways}
use Rattle.text_grammar.proofs.ExactText.{name_shrinks}

module _ {A C : Type 0} (h : A → C) (add : A → ℕ → A) (more : C → ℕ → C) (e : (a : A) (q : ℕ) → more (h a) q ≡ h (add a q)) where
  abbrev kept : Turn A A → Reader (Turn C C)
  kept x = got (map_turn h h x)

  after_comma : (a : A) (q : ℕ) (x : Res ℕ) → bind x (λ (b : ℕ). got (again (more (h a) q))) ≡ bind (bind x (λ (b : ℕ). got (again (add a q)))) kept
  after_comma a q (got b t) = ap (λ (c : C). got (again c) t) (e a q)
  after_comma a q (lost t) = refl

  by_mark : (a : A) (q : ℕ) (c : Bool) (t : List ℕ) →
      cond c (got (last (more (h a) q))) (sign (word "q") >> got (again (more (h a) q))) t
      ≡ bind (cond c (got (last (add a q))) (sign (word "q") >> got (again (add a q))) t) kept
  by_mark a q true t = ap (λ (c : C). got (last c) t) (e a q)
  by_mark a q false t = after_comma a q (sign (word "q") t)

  after_name : (a : A) (q : ℕ) (x : Res ℕ) →
      bind x (λ (b : ℕ). cond (eqb b 59) (got (last (more (h a) q))) (sign (word "q") >> got (again (more (h a) q))))
      ≡ bind (bind x (λ (b : ℕ). cond (eqb b 59) (got (last (add a q))) (sign (word "q") >> got (again (add a q))))) kept
  after_name a q (got b t) = by_mark a q (eqb b 59) t
  after_name a q (lost t) = refl

  one_name : (a : A) (x : Res ℕ) →
      bind x (λ (q : ℕ). sign (word ",;") >>= λ (b : ℕ). cond (eqb b 59) (got (last (more (h a) q))) (sign (word "q") >> got (again (more (h a) q))))
      ≡ bind (bind x (λ (q : ℕ). sign (word ",;") >>= λ (b : ℕ). cond (eqb b 59) (got (last (add a q))) (sign (word "q") >> got (again (add a q))))) kept
  one_name a (got q t) = after_name a q (sign (word ",;") t)
  one_name a (lost t) = refl

  pub names_kept_lem : (a : A) (s : List ℕ) → repeat (name_turn more) (h a) s ≡ bind (repeat (name_turn add) a s) (λ (x : A). got (h x))
  names_kept_lem = repeat_mapped h h (name_turn add) (name_shrinks add) (name_turn more) (name_shrinks more) (λ a s. one_name a (decimal 23 s))

-- ---- the ways, and then what comes after them

module _ {B : Type 0} (K : List ℕ → Reader B) where
  at_dollar : (qs : List ℕ) (x : Res ℕ) → bind x (λ (b : ℕ). K qs) ≡ bind (bind x (λ (b : ℕ). got qs)) K
  at_dollar qs (got b t) = refl
  at_dollar qs (lost t) = refl

  mutual_comma : (k : ℕ) (qs : List ℕ) → ((s : List ℕ) → ways k qs K s ≡ bind (ways k qs got s) K) → (x : Res ℕ) →
      bind x (λ (b : ℕ). ways k qs K) ≡ bind (bind x (λ (b : ℕ). ways k qs got)) K
  mutual_comma k qs f (got b t) = f t
  mutual_comma k qs f (lost t) = refl

  at_queue : (k : ℕ) (qs : List ℕ) → ((q : ℕ) (s : List ℕ) → ways k (snoc qs q) K s ≡ bind (ways k (snoc qs q) got s) K) → (x : Res ℕ) →
      bind x (λ (q : ℕ). sign (word ",") >> ways k (snoc qs q) K) ≡ bind (bind x (λ (q : ℕ). sign (word ",") >> ways k (snoc qs q) got)) K
  at_queue k qs f (got q t) = mutual_comma k (snoc qs q) (f q) (sign (word ",") t)
  at_queue k qs f (lost t) = refl

  by_byte : (k : ℕ) (qs : List ℕ) → ((q : ℕ) (s : List ℕ) → ways k (snoc qs q) K s ≡ bind (ways k (snoc qs q) got s) K) → (c : Bool) (t : List ℕ) →
      cond c (decimal 23 >>= λ (q : ℕ). sign (word ",") >> ways k (snoc qs q) K) (K qs) t
      ≡ bind (cond c (decimal 23 >>= λ (q : ℕ). sign (word ",") >> ways k (snoc qs q) got) (got qs) t) K
  by_byte k qs f true t = at_queue k qs f (decimal 23 t)
  by_byte k qs f false t = refl

  at_next : (k : ℕ) (qs : List ℕ) → ((q : ℕ) (s : List ℕ) → ways k (snoc qs q) K s ≡ bind (ways k (snoc qs q) got s) K) → (x : Res ℕ) →
      bind x (λ (b : ℕ). cond (eqb b 113) (decimal 23 >>= λ (q : ℕ). sign (word ",") >> ways k (snoc qs q) K) (K qs))
      ≡ bind (bind x (λ (b : ℕ). cond (eqb b 113) (decimal 23 >>= λ (q : ℕ). sign (word ",") >> ways k (snoc qs q) got) (got qs))) K
  at_next k qs f (got b t) = by_byte k qs f (eqb b 113) t
  at_next k qs f (lost t) = refl

  pub ways_then : (k : ℕ) (qs s : List ℕ) → ways k qs K s ≡ bind (ways k qs got s) K
  ways_then zero qs s = at_dollar qs (sign (word "$") s)
  ways_then (suc k) qs s = at_next k qs (λ q t. ways_then k (snoc qs q) t) (sign (word "q$") s)
