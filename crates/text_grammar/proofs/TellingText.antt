-- What is read as a step, an operator or a sheet spells its tokens, and its numbers are in range.
-- Assumes nothing.
use Prim.Native.Nat.{ℕ, zero, suc, ◌+◌, ◌-◌, ◌<◌, ◌≤◌}
use mathlib.Core.Path.{◌≡◌, refl, ap, ◌∙◌, sym}
use mathlib.Core.Bool.{true}
use mathlib.Core.List.{List, [], ◌∷◌, ◌++◌, append_assoc, append-nil}
use native.Mathlib.Omega.{arith}
use lib.Dec.{leb}
use lib.ListN.{length}
use lib.IntN.{ℤ, pos}
use mir.Syntax.{w32}
use mir.Val.{to_z}
use borrow.Author.Tests.{le-leb}
use Rattle.base_lists.proofs.Tests.{both_of}
use Rattle.base_words.specs.Text.{word, natural}
use Rattle.sheet_step.specs.declared.Func.TheVariants.{Keep, Add}
use Rattle.sheet_step.specs.declared.Step.{Step}
use Rattle.sheet_operator.specs.Op.{Op}
use Rattle.text_scan.specs.Reader.{got, Reader, ◌>>=◌, ◌>>◌, here, spell}
use Rattle.text_scan.proofs.Sound.{between}
use Rattle.text_scan.proofs.Binding.{same_bind}
use Rattle.text_grammar.specs.Readers.{variable_is_lem, step, steps, line_to, latest_to, double_to, gather_to, ways, deal_from, gather_from, operator}
use Rattle.text_grammar.specs.Tokens.{tight, loose, Token, Spells, none, at_once, spaced, queue_as, variable_as, step_tokens, steps_tokens, way_tokens, op_tokens, Wide, GoodStep, good_keep, good_add, good_copy, good_count, good_stamp, GoodSteps, no_steps, one_step, step_with, GoodOp, good_line, good_latest, good_double, good_deal, good_gather, queues}
use Rattle.text_grammar.proofs.CompleteSteps.{bits_of, bits_back}
use Rattle.text_grammar.proofs.Telling.{spells_then, Tells, Inside, tells_done, tells_sign, inside_here, inside_tight, inside_loose, inside_decimal, inside_spell, inside_same, tells_queue, inside_variable, tells_arrow, tells_byte, tells_number}

-- ---- steps

abbrev StepRead : Step → List ℕ → List ℕ → Type 0
StepRead t s r = GoodStep t × Spells (step_tokens t.func t) s r

as_keep : (p : ℕ) (low high : ℤ) → p ≤ 255 → (hl : Wide low) (hh : Wide high) → {s r : List ℕ} → Spells (step_tokens Keep (step_with Keep 255 p 0 low high)) s r →
    StepRead (step_with Keep 255 p 0 (to_z w32 (bits_of low)) (to_z w32 (bits_of high))) s r
as_keep p low high hp hl hh h = rw (bits_back low hl, bits_back high hh) (good_keep hp hl hh, h)

as_add : (p : ℕ) (low : ℤ) → p ≤ 255 → (hl : Wide low) → {s r : List ℕ} → Spells (step_tokens Add (step_with Add 255 p 0 low (pos 0))) s r →
    StepRead (step_with Add 255 p 0 (to_z w32 (bits_of low)) (pos 0)) s r
as_add p low hp hl h = rw (bits_back low hl) (good_add hp hl, h)

tells_step : Tells StepRead [] step
tells_step =
    tells_sign _ _ (inside_spell (word "K") (word "eep") _ (inside_loose (tells_sign _ _ (inside_tight (tells_byte _ (λ p hp. inside_tight (tells_sign _ _ (inside_tight (tells_number _ (λ low hl. inside_tight (tells_sign _ _ (inside_tight (tells_number _ (λ high hh. inside_tight (tells_sign _ _ (inside_tight (tells_done (λ s r h. as_keep p low high hp hl hh h)), tt)))), tt)))), tt)))), tt))), (inside_spell (word "A") (word "dd") _ (inside_loose (tells_sign _ _ (inside_tight (tells_byte _ (λ p hp. inside_tight (tells_sign _ _ (inside_tight (tells_number _ (λ low hl. inside_tight (tells_sign _ _ (inside_tight (tells_done (λ s r h. as_add p low hp hl h)), tt)))), tt)))), tt))), (inside_spell (word "C") (word "o") _ (inside_here (word "Co") (word "pu") _ (inside_spell (word "Cop") (word "y") _ (inside_loose (tells_sign _ _ (inside_tight (tells_byte _ (λ p hp. inside_tight (tells_sign _ _ (inside_tight (tells_byte _ (λ r hr. inside_tight (tells_sign _ _ (inside_tight (tells_done (λ s x h. (good_copy hp hr, h))), tt)))), tt)))), tt))), (inside_spell (word "Cou") (word "nt") _ (inside_loose (tells_sign _ _ (inside_tight (tells_sign _ _ (inside_variable (word "$") _ (λ v hv. inside_tight (tells_sign _ _ (inside_tight (tells_byte _ (λ p hp. inside_tight (tells_sign _ _ (inside_tight (tells_done (λ s r h. (good_count hv hp, h))), tt)))), tt))), tt)), tt))), tt))), (inside_spell (word "S") (word "tamp") _ (inside_loose (tells_sign _ _ (inside_tight (tells_sign _ _ (inside_variable (word "$") _ (λ v hv. inside_tight (tells_sign _ _ (inside_tight (tells_byte _ (λ p hp. inside_tight (tells_sign _ _ (inside_tight (tells_done (λ s r h. (good_stamp hv hp, h))), tt)))), tt))), tt)), tt))), tt))))

-- ---- operators

abbrev pub OpRead : Op → List ℕ → List ℕ → Type 0
OpRead o s r = GoodOp o × Spells (op_tokens o) s r

tells_latest : Inside OpRead (spaced "(" ∷ []) (word "$") latest_to
tells_latest =
    inside_variable (word "$") _ (λ v hv. inside_tight (tells_sign _ _ (inside_tight (tells_arrow _ (inside_loose (tells_sign _ _ (inside_spell (word "L") (word "atest") _ (inside_loose (tells_sign _ _ (inside_tight (tells_byte _ (λ f hf. inside_tight (tells_sign _ _ (inside_tight (tells_sign _ _ (inside_tight (tells_queue _ (λ p hp. inside_tight (tells_sign _ _ (inside_tight (tells_done (λ s x h. (good_latest hp hv hf, h))), tt)))), tt)), tt)))), tt))), tt)))), tt)))

tells_double : (q r : ℕ) → q ≤ 23 → r ≤ 23 →
    Tells OpRead (spaced "(" ∷ queue_as tight q ∷ at_once "," ∷ queue_as loose r ∷ at_once ")" ∷ []) (double_to q r)
tells_double q r hq hr =
    tells_arrow _ (inside_loose (tells_sign _ _ (inside_spell (word "D") (word "ouble") _ (inside_loose (tells_sign _ _ (inside_tight (tells_queue _ (λ p hp. inside_tight (tells_sign _ _ (inside_tight (tells_done (λ s x h. (good_double hp hq hr, h))), tt)))), tt))), tt)))

-- a reader that tells of its own, and then another
module _ {A B : Type 0} {S : A → List ℕ → List ℕ → Type 0} {T : B → List ℕ → List ℕ → Type 0} where
  pub tells_sub : {ts : List Token} {P : Reader A} (K : A → Reader B) → Tells S [] P →
      ((a : A) (s₀ s m : List ℕ) → Spells ts s₀ s → S a s m → (b : B) (r : List ℕ) → K a m ≡ got b r → T b s₀ r) → Tells T ts (P >>= K)
  tells_sub {ts} {P} K p f =
      record {
        tells = λ s₀ s b r h e.
            let g = between (P s) K e in
            f g.value s₀ s g.rest h (p.tells s s g.value g.rest none g.first) b r g.second;
      }

tells_after : {A : Type 0} {S T : A → List ℕ → List ℕ → Type 0} {ts : List Token} {P : Reader A} → Tells S [] P →
    ((a : A) (s₀ s r : List ℕ) → Spells ts s₀ s → S a s r → T a s₀ r) → Tells T ts P
tells_after p f = record { tells = λ s₀ s b r h e. f b s₀ s r h (p.tells s s b r none e) }

tells_step_then : {B : Type 0} {T : B → List ℕ → List ℕ → Type 0} {ts : List Token} (K : Step → Reader B) →
    ((t : Step) → GoodStep t → Tells T (ts ++ step_tokens t.func t) (K t)) → Tells T ts (step >>= K)
tells_step_then K f = tells_sub K tells_step (λ t s₀ s m h x b r e. (f t x.0).tells s₀ m b r (spells_then h x.1) e)

record StepsRead (k : ℕ) (acc vs : List Step) (s r : List ℕ) : Type 0 where
  first : Step
  others : List Step
  same : vs ≡ acc ++ (first ∷ others)
  good : GoodStep first
  goods : GoodSteps others
  short : length others ≤ k
  spells : Spells (step_tokens first.func first ++ (steps_tokens others ++ (at_once "(" ∷ []))) s r

more_steps : (k : ℕ) (acc : List Step) (t : Step) → GoodStep t → (vs : List Step) (s₀ s r : List ℕ) → Spells (step_tokens t.func t ++ (spaced "|" ∷ [])) s₀ s →
    StepsRead k (acc ++ (t ∷ [])) vs s r → StepsRead (suc k) acc vs s₀ r
more_steps k acc t h vs s₀ s r e x =
    record {
      first = t;
      others = x.first ∷ x.others;
      same = x.same ∙ append_assoc acc (t ∷ []) (x.first ∷ x.others);
      good = h;
      goods = one_step x.good x.goods;
      short = let l = x.short in omega arith;
      spells = rw (tokens_same (step_tokens t.func t) (spaced "|") (step_tokens x.first.func x.first) (steps_tokens x.others) (at_once "(" ∷ []))
          (spells_then e x.spells);
    }
  where
    tokens_same : (a : List Token) (b : Token) (c d f : List Token) → a ++ ((b ∷ (c ++ d)) ++ f) ≡ (a ++ (b ∷ [])) ++ (c ++ (d ++ f))
    tokens_same a b c d f = ap (λ (l : List Token). a ++ (b ∷ l)) (append_assoc c d f) ∙ sym (append_assoc a (b ∷ []) (c ++ (d ++ f)))

last_step : (k : ℕ) (acc : List Step) (t : Step) → GoodStep t → (s r : List ℕ) → Spells (step_tokens t.func t ++ (at_once "(" ∷ [])) s r → StepsRead k acc (acc ++ (t ∷ [])) s r
last_step k acc t h s r e = record { first = t; others = []; same = refl; good = h; goods = no_steps; short = omega arith; spells = e }

tells_steps : (k : ℕ) (acc : List Step) → Tells (StepsRead k acc) [] (steps k acc)
tells_steps zero acc = tells_step_then _ (λ t h. tells_sign _ _ (inside_tight (tells_done (λ s r e. last_step zero acc t h s r e)), tt))
tells_steps (suc k) acc =
    tells_step_then _ (λ t h. tells_sign _ _ (
      inside_loose (tells_after (tells_steps k (acc ++ (t ∷ []))) (λ vs s₀ s r e x. more_steps k acc t h vs s₀ s r e x)),
      (inside_tight (tells_done (λ s r e. last_step (suc k) acc t h s r e)), tt),
    ))

tells_steps_then : {B : Type 0} {T : B → List ℕ → List ℕ → Type 0} {ts : List Token} (K : List Step → Reader B) →
    ((t : Step) (us : List Step) → GoodStep t → GoodSteps us → length us ≤ 3 →
    Tells T (ts ++ (step_tokens t.func t ++ (steps_tokens us ++ (at_once "(" ∷ [])))) (K (t ∷ us))) → Tells T ts (steps 3 [] >>= K)
tells_steps_then K f =
    tells_sub K (tells_steps 3 [])
    (λ vs s₀ s m h x b r e. (f x.first x.others x.good x.goods x.short).tells s₀ m b r (spells_then h x.spells)
    (sym (ap (λ (l : List Step). K l m) x.same) ∙ e))

tells_line : (q : ℕ) → q ≤ 23 → Tells OpRead (spaced "(" ∷ queue_as tight q ∷ at_once ")" ∷ []) (line_to q)
tells_line q hq =
    tells_arrow _ (inside_loose (tells_steps_then _ (λ t us ht hus l. tells_queue _ (λ p hp. inside_tight (tells_sign _ _ (
      inside_tight
          (tells_done (λ s r h. (good_line hp hq ht hus l, simp append_assoc (simp append_assoc at h)))),
      tt,
    ))))))

-- ---- ways

module _ {B : Type 0} {T : B → List ℕ → List ℕ → Type 0} where
  tells_ways : (k : ℕ) (qs : List ℕ) (ts : List Token) (K : List ℕ → Reader B) →
      ((us : List ℕ) → queues us ≡ true → length us ≤ k → Inside T (ts ++ way_tokens us) (word "$") (K (qs ++ us))) → Tells T ts (ways k qs K)
  tells_ways zero qs ts K f = tells_sign _ _ (rw (append-nil ts, append-nil qs) at (f [] refl (omega arith)), tt)
  tells_ways (suc k) qs ts K f =
      tells_sign _ _ (
        inside_decimal 23 (omega arith) (word "q") _ (λ q hq. inside_loose (tells_sign _ _ (
          inside_tight
              (tells_ways k (qs ++ (q ∷ [])) ((ts ++ (queue_as loose q ∷ [])) ++ (at_once "," ∷ [])) K
              (λ us h l. rw (append_assoc qs (q ∷ []) us, append_assoc (ts ++ (queue_as loose q ∷ [])) (at_once "," ∷ []) (way_tokens us), append_assoc ts (queue_as loose q ∷ []) (at_once "," ∷ way_tokens us))
              (f (q ∷ us) (both_of (leb q 23) _ (le-leb q 23 hq) h) (omega arith)))),
          tt,
        ))),
        (rw (append-nil ts, append-nil qs) at (f [] refl (omega arith)), tt),
      )

  inside_is : {ts : List Token} (w : List ℕ) (v : ℕ) (P : Reader B) → Inside T ts ((w ++ (118 ∷ [])) ++ natural v) P → Inside T ts w (variable_is_lem v >> P)
  inside_is w v P f =
      inside_same (λ s. same_bind (here (word "v") s) (λ (b : ℕ). spell (natural v)) (λ (b : ℕ). P))
      (inside_here w (word "v") (λ (b : ℕ). spell (natural v) >> P) (inside_spell (w ++ (118 ∷ [])) (natural v) P f, tt))

-- tokens put one by one at the end
abbrev snocs : List Token → List Token → List Token
snocs ts [] = ts
snocs ts (u ∷ us) = snocs (ts ++ (u ∷ [])) us

snocs_is : (ts us : List Token) → snocs ts us ≡ ts ++ us
snocs_is ts [] = sym (append-nil ts)
snocs_is ts (u ∷ us) = snocs_is (ts ++ (u ∷ [])) us ∙ append_assoc ts (u ∷ []) us

tells_deal : (q r : ℕ) → q ≤ 23 → r ≤ 23 → (us : List ℕ) → queues us ≡ true → length us ≤ 2 →
    Inside OpRead ((spaced "(" ∷ queue_as tight q ∷ at_once "," ∷ queue_as loose r ∷ at_once "," ∷ []) ++ way_tokens us) (word "$") (deal_from (q ∷ r ∷ us))
tells_deal q r hq hr us hus l =
    inside_variable (word "$") _ (λ v hv. inside_loose (tells_sign _ _ (inside_tight (tells_arrow _ (inside_loose (tells_sign _ _ (inside_spell (word "D") (word "eal") _ (inside_loose (tells_sign _ _ (inside_tight (tells_queue _ (λ p hp. inside_tight (tells_sign _ _ (inside_tight (tells_sign _ _ (inside_is (word "$") v _ (inside_loose (tells_sign _ _ (inside_tight (tells_done (λ s x h. (good_deal hv hp hq hr hus l, rw (← snocs_is (way_tokens us) (variable_as loose v ∷ at_once ")" ∷ spaced "<-" ∷ spaced "Deal" ∷ at_once "(" ∷ queue_as tight p ∷ at_once "," ∷ variable_as loose v ∷ at_once ")" ∷ [])) h))), tt))), tt)), tt)))), tt))), tt)))), tt)))

tells_gather : (q : ℕ) → q ≤ 23 → Inside OpRead (spaced "(" ∷ queue_as tight q ∷ at_once "," ∷ []) (word "$") (gather_to q)
tells_gather q hq =
    inside_variable (word "$") _ (λ v hv. inside_loose (tells_sign _ _ (inside_tight (tells_arrow _ (inside_loose (tells_sign _ _ (inside_spell (word "G") (word "ather") _ (inside_loose (tells_sign _ _ (inside_tight (tells_queue _ (λ a ha. inside_tight (tells_sign _ _ (inside_tight (tells_queue _ (λ b hb. inside_loose (tells_sign _ _ (inside_tight (tells_ways 2 (a ∷ b ∷ []) (spaced "(" ∷ queue_as tight q ∷ at_once "," ∷ variable_as loose v ∷ at_once ")" ∷ spaced "<-" ∷ spaced "Gather" ∷ at_once "(" ∷ queue_as tight a ∷ at_once "," ∷ queue_as loose b ∷ at_once "," ∷ []) (gather_from v q) (λ us hus l. inside_is (word "$") v _ (inside_loose (tells_sign _ _ (inside_tight (tells_done (λ s x h. (good_gather hv hq ha hb hus l, rw (← snocs_is (way_tokens us) (variable_as loose v ∷ at_once ")" ∷ [])) h))), tt))))), tt)))), tt)))), tt))), tt)))), tt)))

pub tells_operator : Tells OpRead [] operator
tells_operator =
    tells_sign _ _ (
      inside_loose (tells_sign _ _ (
        inside_decimal 23 (omega arith) (word "q") _ (λ q hq. inside_tight (tells_sign _ _ (
          inside_tight (tells_line q hq),
          (
            inside_tight (tells_sign _ _ (
              inside_decimal 23 (omega arith) (word "q") _ (λ r hr. inside_loose (tells_sign _ _ (
                inside_tight (tells_double q r hq hr),
                (
                  inside_tight (tells_ways 2 (q ∷ r ∷ []) (spaced "(" ∷ queue_as tight q ∷ at_once "," ∷ queue_as loose r ∷ at_once "," ∷ []) deal_from
                      (λ us hus l. tells_deal q r hq hr us hus l)),
                  tt,
                ),
              ))),
              (tells_gather q hq, tt),
            )),
            tt,
          ),
        ))),
        (tells_latest, tt),
      )),
      tt,
    )
