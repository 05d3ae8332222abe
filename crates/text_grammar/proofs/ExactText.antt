-- Every reader of the text is exact.
-- Assumes nothing.
use Prim.Native.Nat.{ℕ, zero, suc, ◌-◌, ◌<◌}
use mathlib.Core.Path.{◌≡◌, refl, ap}
use mathlib.Core.Bool.{true, cond}
use mathlib.Core.List.{List, [], ◌∷◌, ◌++◌}
use lib.Dec.{eqb}
use lib.ListN.{length}
use Rattle.base_words.specs.Text.{word}
use Rattle.sheet_step.specs.declared.Func.{Func}
use Rattle.sheet_step.specs.declared.Step.{Step}
use Rattle.sheet_operator.specs.Op.{Op}
use Rattle.text_scan.specs.Reader.{Reader, Turn, turn, Res, bind, is_blank, got, lost, ◌>>=◌, ◌>>◌, here, sign, digits, repeat, to_end}
use Rattle.text_scan.proofs.Exact.{Exact, exact_done, exact_bind, exact_next, exact_cond, exact_repeat, Stops, shrinks, repeat_turn}
use Rattle.text_scan.proofs.ExactBytes.{exact_spell, exact_one, exact_mark, exact_closed, open_digits, open_bind, open_cond, open_as, sign_blanks, Open}
use Rattle.text_scan.proofs.Whole.{Whole, whole_bind, at_end_lem, whole_to_end}
use Rattle.base_lists.specs.Lists.{all}
use Rattle.text_grammar.specs.Readers.{decimal, byte, negative, number, queue, variable, variable_is_lem, keep, add, copy, on_variable, copy_or_count, step, steps, arrow, line_to, double_to, latest_to, ways, deal_from, deal_to, gather_from, gather_to, two_to, more_to, queue_to, operator, name_turn, names_by, snoc, head, item, text, item_by, with_op}

open_decimal : (top : ℕ) → Open (decimal top)
open_decimal top = open_bind (exact_one _ refl) (λ b. open_digits top (b - 48))

open_byte : Open byte
open_byte = open_bind (exact_mark _ refl) (λ b. open_digits 255 (b - 48))

open_negative : Open negative
open_negative = open_bind (exact_one _ refl) (λ b. open_as _ (open_digits 2147483648 (b - 48)))

open_number : Open number
open_number = open_bind (exact_mark _ refl) (λ b. open_cond (eqb b 45) open_negative (open_digits 2147483647 (b - 48)))

open_queue : Open queue
open_queue = open_bind (exact_mark _ refl) (λ b. open_decimal 23)

open_variable : Open variable
open_variable = open_bind (exact_one _ refl) (λ b. open_decimal 15)

-- ---- steps

exact_keep : Exact keep
exact_keep =
    exact_next (exact_spell _) (exact_next (exact_mark _ refl)
    (exact_closed _ refl open_byte (λ p m. exact_closed _ refl open_number (λ low n. exact_closed _ refl open_number (λ high o. exact_done _)))))

exact_add : Exact add
exact_add =
    exact_next (exact_spell _) (exact_next (exact_mark _ refl)
    (exact_closed _ refl open_byte (λ p m. exact_closed _ refl open_number (λ low n. exact_done _))))

exact_copy : Exact copy
exact_copy =
    exact_next (exact_spell _) (exact_next (exact_mark _ refl)
    (exact_closed _ refl open_byte (λ p m. exact_closed _ refl open_byte (λ r n. exact_done _))))

exact_on_variable : (f : Func) → Exact (on_variable f)
exact_on_variable f =
    exact_next (exact_mark _ refl) (exact_next (exact_mark _ refl)
    (exact_closed _ refl open_variable (λ v m. exact_closed _ refl open_byte (λ p n. exact_done _))))

exact_copy_or_count : Exact copy_or_count
exact_copy_or_count =
    exact_next (exact_spell _) (exact_bind (exact_one _ refl)
    (λ b. exact_cond (eqb b 112) exact_copy (exact_next (exact_spell _) (exact_on_variable _))))

exact_step : Exact step
exact_step =
    exact_bind (exact_mark _ refl)
    (λ b. exact_cond (eqb b 75) exact_keep
    (exact_cond (eqb b 65) exact_add
    (exact_cond (eqb b 67) exact_copy_or_count (exact_next (exact_spell _) (exact_on_variable _)))))

exact_steps : (k : ℕ) (ts : List Step) → Exact (steps k ts)
exact_steps zero ts = exact_bind exact_step (λ t. exact_next (exact_mark _ refl) (exact_done _))
exact_steps (suc k) ts =
    exact_bind exact_step (λ t. exact_bind (exact_mark _ refl) (λ b. exact_cond (eqb b 124) (exact_steps k _) (exact_done _)))

-- ---- operators

exact_arrow : Exact arrow
exact_arrow = exact_next (exact_mark _ refl) (exact_one _ refl)

exact_line_to : (q : ℕ) → Exact (line_to q)
exact_line_to q = exact_next exact_arrow (exact_bind (exact_steps 3 []) (λ ts. exact_closed _ refl open_queue (λ p m. exact_done _)))

exact_double_to : (q r : ℕ) → Exact (double_to q r)
exact_double_to q r =
    exact_next exact_arrow (exact_next (exact_mark _ refl) (exact_next (exact_spell _) (exact_next (exact_mark _ refl)
    (exact_closed _ refl open_queue (λ p m. exact_done _)))))

exact_latest_to : Exact latest_to
exact_latest_to =
    exact_closed _ refl open_variable (λ v m. exact_next exact_arrow (exact_next (exact_mark _ refl) (exact_next (exact_spell _)
    (exact_next (exact_mark _ refl) (exact_closed _ refl open_byte (λ f n. exact_next (exact_mark _ refl)
    (exact_closed _ refl open_queue (λ p o. exact_done _))))))))

exact_ways : {B : Type 0} (k : ℕ) (qs : List ℕ) {K : List ℕ → Reader B} → ((qs : List ℕ) → Exact (K qs)) → Exact (ways k qs K)
exact_ways zero qs h = exact_next (exact_mark _ refl) (h qs)
exact_ways (suc k) qs h =
    exact_bind (exact_mark _ refl)
    (λ b. exact_cond (eqb b 113) (exact_closed _ refl (open_decimal 23) (λ q m. exact_ways k (qs ++ (q ∷ [])) h)) (h qs))

exact_variable_is : (v : ℕ) → Exact (variable_is_lem v)
exact_variable_is v = exact_next (exact_one _ refl) (exact_spell _)

exact_deal_from : (qs : List ℕ) → Exact (deal_from qs)
exact_deal_from qs =
    exact_closed _ refl open_variable (λ v m. exact_next exact_arrow
    (exact_next (exact_mark _ refl) (exact_next (exact_spell _) (exact_next (exact_mark _ refl)
    (exact_closed _ refl open_queue (λ p n. exact_next (exact_mark _ refl) (exact_next (exact_variable_is v)
    (exact_next (exact_mark _ refl) (exact_done _)))))))))

exact_deal_to : (q r : ℕ) → Exact (deal_to q r)
exact_deal_to q r = exact_ways 2 (q ∷ r ∷ []) exact_deal_from

exact_gather_from : (v q : ℕ) (ps : List ℕ) → Exact (gather_from v q ps)
exact_gather_from v q ps = exact_next (exact_variable_is v) (exact_next (exact_mark _ refl) (exact_done _))

exact_gather_to : (q : ℕ) → Exact (gather_to q)
exact_gather_to q =
    exact_closed _ refl open_variable (λ v m. exact_next exact_arrow
    (exact_next (exact_mark _ refl) (exact_next (exact_spell _) (exact_next (exact_mark _ refl)
    (exact_closed _ refl open_queue (λ a n. exact_closed _ refl open_queue
    (λ b o. exact_ways 2 (a ∷ b ∷ []) {K = gather_from v q} (exact_gather_from v q))))))))

exact_two_to : (q : ℕ) → Exact (two_to q)
exact_two_to q = exact_closed _ refl (open_decimal 23) (λ r b. exact_cond (eqb b 41) (exact_double_to q r) (exact_deal_to q r))

exact_more_to : (q : ℕ) → Exact (more_to q)
exact_more_to q = exact_bind (exact_mark _ refl) (λ b. exact_cond (eqb b 113) (exact_two_to q) (exact_gather_to q))

exact_queue_to : Exact queue_to
exact_queue_to = exact_closed _ refl (open_decimal 23) (λ q b. exact_cond (eqb b 41) (exact_line_to q) (exact_more_to q))

pub exact_operator : Exact operator
exact_operator =
    exact_next (exact_mark _ refl) (exact_bind (exact_mark _ refl) (λ b. exact_cond (eqb b 113) exact_queue_to exact_latest_to))

-- ---- the text

module _ {A : Type 0} (add : A → ℕ → A) where
  pub exact_name : (a : A) → Exact (name_turn add a)
  exact_name a =
      exact_closed _ refl (open_decimal 23)
      (λ q b. exact_cond (eqb b 59) (exact_done _) (exact_next (exact_mark _ refl) (exact_done _)))

  stops_name : (a : A) → Stops (name_turn add a)
  unfolding here sign digits
  stops_name a = record { end = word "0;"; value = add a 0; reads = λ t. refl }

  no_name : (a : A) → name_turn add a [] ≡ lost []
  unfolding here
  no_name a = refl

  pub name_shrinks : (a : A) (s : List ℕ) (x : Turn A A) (t : List ℕ) → name_turn add a s ≡ got x t → length t < length s
  name_shrinks a = shrinks (name_turn add a) (no_name a) (exact_name a)

  pub names_turn : (a : A) (s : List ℕ) → repeat (name_turn add) a s ≡ (name_turn add a >>= turn (repeat (name_turn add))) s
  names_turn = repeat_turn (name_turn add) name_shrinks

  exact_names : (a : A) → Exact (names_by add a)
  exact_names a =
      exact_bind (exact_one _ refl) (λ b. exact_cond (eqb b 59) (exact_done a)
      (exact_bind (exact_mark _ refl) (λ c. exact_cond (eqb c 59) (exact_done a)
      (exact_repeat (name_turn add) name_shrinks exact_name stops_name a))))

exact_head : Exact head
exact_head =
    exact_next (exact_mark _ refl) (exact_next (exact_spell _) (exact_bind (exact_names snoc []) (λ outs.
    exact_next (exact_mark _ refl) (exact_next (exact_spell _) (exact_bind (exact_names snoc []) (λ ins.
    exact_next (exact_mark _ refl) (exact_next (exact_spell _) (exact_next (exact_one _ refl)
    (exact_closed _ refl open_byte (λ v m. exact_done _))))))))))

module _ {A : Type 0} (add : A → Op → A) (a : A) where
  pub exact_item : Exact (item_by add a)
  exact_item = exact_bind exact_operator (λ o. exact_next (exact_mark _ refl) (exact_done _))

  pub no_item : (s : List ℕ) → all is_blank s ≡ true → item_by add a s ≡ lost []
  no_item s h = ap (λ (x : Res ℕ). bind (bind x (λ b. rest)) next) (sign_blanks (word "(") s h)
    where
      rest : Reader Op
      rest = sign (word "q$") >>= λ (b : ℕ). cond (eqb b 113) queue_to latest_to

      next : Op → Reader A
      next o = sign (word ";") >> got (add a o)

-- the first 19, exactly
pub text_exact : (s : List ℕ) → Whole text s
text_exact s =
    whole_bind head (to_end item) s (exact_head s) (λ t. at_end_lem item (exact_item with_op) (no_item with_op) t)
    (λ t r e. whole_to_end item (exact_item with_op) (no_item with_op) t r)
