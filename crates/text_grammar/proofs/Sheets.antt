-- What is read as a sheet is a text of the grammar that stands for it; and the two halves of 19.
-- Assumes nothing.
use Prim.Native.Nat.{ℕ, zero, suc, ◌+◌, ◌-◌, ◌<◌, ◌≤◌}
use mathlib.Core.Path.{◌≡◌, refl, ap, ◌∙◌, sym}
use mathlib.Core.Logic.{⊎_elim}
use mathlib.Core.Bool.{Bool, true, false, cond, ◌||◌}
use mathlib.Core.List.{List, [], ◌∷◌, ◌++◌, append_assoc, append-nil}
use native.Mathlib.Omega.{arith}
use lib.Dec.{eqb, leb}
use lib.ListN.{length}
use borrow.Author.Tests.{le-leb, eqb-true}
use Rattle.base_lists.specs.Lists.{member, all}
use Rattle.base_lists.proofs.Tests.{both_of}
use Rattle.base_words.specs.Text.{word, natural}
use Rattle.sheet_operator.specs.Op.{Op}
use Rattle.text_scan.specs.Reader.{Res, got, lost, Reader, bind, ◌>>=◌, ◌>>◌, Turn, again, last, turn, repeat, BLANKS, is_blank, here, sign, digits, to_end}
use Rattle.text_scan.specs.Reads.{after_blanks}
use Rattle.text_scan.proofs.Places.{sign_after}
use Rattle.text_scan.proofs.Exact.{either}
use Rattle.text_scan.proofs.Whole.{Whole, Carries, dead, cut, ended, goes_on, smaller}
use Rattle.text_scan.proofs.Whole as whole
use Rattle.text_scan.proofs.Sound.{between, here_was}
use Rattle.text_grammar.specs.Readers.{decimal, byte, name_turn, snoc, names, head, item, text, Tree, with_op}
use Rattle.text_grammar.specs.Tokens.{must, Token, Spells, none, more, at_once, spaced, byte_as, op_tokens, rest_tokens, names_tokens, GoodOp, GoodOps, no_ops, one_op, TextOf, queues}
use Rattle.text_grammar.proofs.ExactText.{names_turn, name_shrinks, exact_item, no_item, text_exact}
use Rattle.text_grammar.proofs.CompleteText.{head_tokens, ops_tokens, tree_of, text_tokens_lem, text_complete, rest_of}
use Rattle.text_grammar.proofs.Telling.{spells_then, Tells, blanks_of, tells_done, tells_sign, inside_tight, inside_loose, inside_spell, decimal_text, decimal_most}
use Rattle.text_grammar.proofs.TellingText.{tells_operator, tells_sub}

-- ---- lists of names

-- a mark that was read after blanks
record Marked (ms s : List ℕ) (c : ℕ) (r : List ℕ) : Type 0 where
  blanks : List ℕ
  free : all is_blank blanks ≡ true
  one : member c ms ≡ true
  text : s ≡ blanks ++ (c ∷ r)

marked : (ms s : List ℕ) (c : ℕ) (r : List ℕ) → sign ms s ≡ got c r → Marked ms s c r
marked ms s c r e =
    let w = here_was ms (after_blanks s) (sym (sign_after ms s) ∙ e) in
    let k = blanks_of s in
    record { blanks = k.blanks; free = k.free; one = w.one; text = k.text ∙ ap (λ (l : List ℕ). k.blanks ++ l) w.text }

-- of a list whose first name's `q` was read
record RestRead (acc qs u r : List ℕ) : Type 0 where
  first : ℕ
  others : List ℕ
  same : qs ≡ acc ++ (first ∷ others)
  small : first ≤ 23
  smalls : queues others ≡ true
  mid : List ℕ
  text : u ≡ natural first ++ mid
  spells : Spells (rest_tokens others ++ (at_once ";" ∷ [])) mid r

abbrev branch : List ℕ → ℕ → ℕ → Reader (Turn (List ℕ) (List ℕ))
branch acc q b = cond (eqb b 59) (got (last (snoc acc q))) (sign (word "q") >> got (again (snoc acc q)))

one_of_two : (a b c : ℕ) → member c (a ∷ b ∷ []) ≡ true → eqb c b ≡ false → c ≡ a
one_of_two a b c h e = eqb-true c a (sym (ap (λ (x : Bool). eqb c a || (x || false)) e ∙ orf (eqb c a)) ∙ h)
  where
    orf : (x : Bool) → (x || (false || false)) ≡ x
    orf true = refl
    orf false = refl

only : (a c : ℕ) → member c (a ∷ []) ≡ true → c ≡ a
only a c h = eqb-true c a (orf (eqb c a) h)
  where
    orf : (x : Bool) → (x || false) ≡ true → x ≡ true
    orf true e = refl
    orf false e = e

-- one turn: a name, and a mark; after a comma the next `q`
data TurnRead (acc u : List ℕ) : Turn (List ℕ) (List ℕ) → List ℕ → Type 0 where
  is_last : (q : ℕ) (mid bl r : List ℕ) → q ≤ 23 → u ≡ natural q ++ mid → all is_blank bl ≡ true → mid ≡ bl ++ (59 ∷ r) → TurnRead acc u (last (snoc acc q)) r
  is_again : (q : ℕ) (mid bl to br r : List ℕ) → q ≤ 23 → u ≡ natural q ++ mid → all is_blank bl ≡ true → mid ≡ bl ++ (44 ∷ to) →
      all is_blank br ≡ true → to ≡ br ++ (113 ∷ r) → TurnRead acc u (again (snoc acc q)) r

turn_as : (acc u : List ℕ) (x y : Turn (List ℕ) (List ℕ)) (r t : List ℕ) → got x r ≡ got y t → TurnRead acc u x r → TurnRead acc u y t
turn_as acc u x y r t e h = let i : x ≡ y = cc in let j : r ≡ t = cc in rw (← i, ← j) h

last_said : (acc u mid : List ℕ) (q c : ℕ) (w : List ℕ) (x : Turn (List ℕ) (List ℕ)) (t : List ℕ) → q ≤ 23 → u ≡ natural q ++ mid → Marked (word ",;") mid c w → c ≡ 59 →
    got (last (snoc acc q)) w ≡ got x t → TurnRead acc u x t
last_said acc u mid q c w x t l e k h g =
    turn_as acc u (last (snoc acc q)) x w t g (is_last q mid k.blanks w l e k.free (k.text ∙ ap (λ (i : ℕ). k.blanks ++ (i ∷ w)) h))

again_said : (acc u mid : List ℕ) (q c : ℕ) (w : List ℕ) (x : Turn (List ℕ) (List ℕ)) (t : List ℕ) → q ≤ 23 → u ≡ natural q ++ mid → Marked (word ",;") mid c w → c ≡ 44 →
    (sign (word "q") >> got (again (snoc acc q))) w ≡ got x t → TurnRead acc u x t
again_said acc u mid q c w x t l e k h g =
    let f = between (sign (word "q") w) (λ (b : ℕ). got (again (snoc acc q))) g in
    let j = marked (word "q") w f.value f.rest f.first in
    turn_as acc u (again (snoc acc q)) x f.rest t f.second
    (is_again q mid k.blanks w j.blanks f.rest l e k.free (k.text ∙ ap (λ (i : ℕ). k.blanks ++ (i ∷ w)) h) j.free
    (j.text ∙ ap (λ (i : ℕ). j.blanks ++ (i ∷ f.rest)) (only 113 f.value j.one)))

branch_said : (acc u mid : List ℕ) (q c : ℕ) (w : List ℕ) (x : Turn (List ℕ) (List ℕ)) (t : List ℕ) → q ≤ 23 → u ≡ natural q ++ mid → Marked (word ",;") mid c w →
    branch acc q c w ≡ got x t → TurnRead acc u x t
branch_said acc u mid q c w x t l e k g =
    ⊎_elim
    (λ h. last_said acc u mid q c w x t l e k (eqb-true c 59 h)
    (sym (ap (λ (b : Bool). cond b (got (last (snoc acc q))) (sign (word "q") >> got (again (snoc acc q))) w) h) ∙ g))
    (λ h. again_said acc u mid q c w x t l e k (one_of_two 44 59 c k.one h)
    (sym (ap (λ (b : Bool). cond b (got (last (snoc acc q))) (sign (word "q") >> got (again (snoc acc q))) w) h) ∙ g))
    (either (eqb c 59))

turn_said : (acc u : List ℕ) (x : Turn (List ℕ) (List ℕ)) (t : List ℕ) → name_turn snoc acc u ≡ got x t → TurnRead acc u x t
turn_said acc u x t e =
    let d = between (decimal 23 u) (λ (q : ℕ). sign (word ",;") >>= branch acc q) e in
    let m = between (sign (word ",;") d.rest) (branch acc d.value) d.second in
    branch_said acc u d.rest d.value m.value m.rest x t (decimal_most 23 (omega arith) u d.first) (decimal_text 23 u d.first)
    (marked (word ",;") d.rest m.value m.rest m.first) m.second

name_last : (acc u qs r t : List ℕ) (q : ℕ) (mid bl : List ℕ) → q ≤ 23 → u ≡ natural q ++ mid → all is_blank bl ≡ true → mid ≡ bl ++ (59 ∷ t) →
    got (snoc acc q) t ≡ got qs r → RestRead acc qs u r
name_last acc u qs r t q mid bl l e f g x =
    let v : snoc acc q ≡ qs = cc in
    let w : t ≡ r = cc in
    record {
      first = q;
      others = [];
      same = sym v;
      small = l;
      smalls = refl;
      mid = mid;
      text = e;
      spells = more (record { blanks = bl; free = f; text = g ∙ ap (λ (i : List ℕ). bl ++ (59 ∷ i)) w }) none;
    }

name_next : (acc u qs r t : List ℕ) (q : ℕ) (mid bl to br : List ℕ) → q ≤ 23 → u ≡ natural q ++ mid → all is_blank bl ≡ true → mid ≡ bl ++ (44 ∷ to) →
    all is_blank br ≡ true → to ≡ br ++ (113 ∷ t) → RestRead (snoc acc q) qs t r → RestRead acc qs u r
name_next acc u qs r t q mid bl to br l e f g h k i =
    record {
      first = q;
      others = i.first ∷ i.others;
      same = i.same ∙ append_assoc acc (q ∷ []) (i.first ∷ i.others);
      small = l;
      smalls = both_of (leb i.first 23) _ (le-leb i.first 23 i.small) i.smalls;
      mid = mid;
      text = e;
      spells = more (record { blanks = bl; free = f; text = g })
          (more (record { blanks = br; free = h; text = k ∙ ap (λ (x : List ℕ). br ++ (113 ∷ x)) i.text }) i.spells);
    }

rest_by : (acc u qs r : List ℕ) (x : Turn (List ℕ) (List ℕ)) (t : List ℕ) → TurnRead acc u x t → turn (repeat (name_turn snoc)) x t ≡ got qs r →
    ((b : List ℕ) → repeat (name_turn snoc) b t ≡ got qs r → RestRead b qs t r) → RestRead acc qs u r
rest_by acc u qs r x t (is_last q mid bl y a b c d) e next = name_last acc u qs r y q mid bl a b c d e
rest_by acc u qs r x t (is_again q mid bl to br y a b c d f g) e next = name_next acc u qs r y q mid bl to br a b c d f g (next (snoc acc q) e)

rest_said : (n : ℕ) (acc u qs r : List ℕ) → length u < n → repeat (name_turn snoc) acc u ≡ got qs r → RestRead acc qs u r
rest_said zero acc u qs r l e = absurd (omega arith)
rest_said (suc n) acc u qs r l e =
    let f = between (name_turn snoc acc u) (turn (repeat (name_turn snoc))) (sym (names_turn snoc acc u) ∙ e) in
    rest_by acc u qs r f.value f.rest (turn_said acc u f.value f.rest f.first) f.second
    (λ b h. rest_said n b f.rest qs r (let p = name_shrinks snoc acc u f.value f.rest f.first in omega arith) h)

-- ---- a list, from the word before it on

abbrev NamesRead : List ℕ → List ℕ → List ℕ → Type 0
NamesRead qs s r = (queues qs ≡ true) × Spells (names_tokens qs) s r

no_names : (s r t qs b : List ℕ) → all is_blank b ≡ true → s ≡ b ++ (59 ∷ t) → ◌≡◌ {A = Res (List ℕ)} (got [] t) (got qs r) → NamesRead qs s r
no_names s r t qs b h e g =
    let i : ◌≡◌ {A = List ℕ} [] qs = cc in
    let j : t ≡ r = cc in
    rw (← i) (refl, more (record { blanks = b; free = h; text = e ∙ ap (λ (l : List ℕ). b ++ (59 ∷ l)) j }) none)

some_names : (s r t qs : List ℕ) (x : ℕ) (b : List ℕ) → is_blank x ≡ true → all is_blank b ≡ true → s ≡ x ∷ (b ++ (113 ∷ t)) → RestRead [] qs t r → NamesRead qs s r
some_names s r t qs x b h k e i =
    rw i.same (
      both_of (leb i.first 23) _ (le-leb i.first 23 i.small) i.smalls,
      more (record { blanks = x ∷ b; free = both_of (is_blank x) (all is_blank b) h k; text = e ∙ ap (λ (l : List ℕ). x ∷ (b ++ (113 ∷ l))) i.text }) i.spells,
    )

after_blank : (x : ℕ) (t qs r : List ℕ) → is_blank x ≡ true → (sign (word "q;") >>= rest_of) t ≡ got qs r → NamesRead qs (x ∷ t) r
after_blank x t qs r h e =
    let f = between (sign (word "q;") t) rest_of e in
    let k = marked (word "q;") t f.value f.rest f.first in
    ⊎_elim
    (λ g. no_names (x ∷ t) r f.rest qs (x ∷ k.blanks) (both_of (is_blank x) (all is_blank k.blanks) h k.free)
    (ap (λ (l : List ℕ). x ∷ l) k.text ∙ ap (λ (i : ℕ). x ∷ (k.blanks ++ (i ∷ f.rest))) (eqb-true f.value 59 g))
    (sym (ap (λ (b : Bool). cond b (got []) (repeat (name_turn snoc) []) f.rest) g) ∙ f.second))
    (λ g. some_names (x ∷ t) r f.rest qs x k.blanks h k.free
    (ap (λ (l : List ℕ). x ∷ l) k.text ∙ ap (λ (i : ℕ). x ∷ (k.blanks ++ (i ∷ f.rest))) (one_of_two 113 59 f.value k.one g))
    (rest_said (suc (length f.rest)) [] f.rest qs r (omega arith) (sym (ap (λ (b : Bool). cond b (got []) (repeat (name_turn snoc) []) f.rest) g) ∙ f.second)))
    (either (eqb f.value 59))

names_said : (s qs r : List ℕ) → names s ≡ got qs r → NamesRead qs s r
names_said s qs r e =
    let f = between (here (59 ∷ BLANKS) s) (λ (b : ℕ). cond (eqb b 59) (got []) (sign (word "q;") >>= rest_of)) e in
    let w = here_was (59 ∷ BLANKS) s f.first in
    ⊎_elim
    (λ g. no_names s r f.rest qs [] refl (w.text ∙ ap (λ (i : ℕ). i ∷ f.rest) (eqb-true f.value 59 g))
    (sym (ap (λ (b : Bool). cond b (got []) (sign (word "q;") >>= rest_of) f.rest) g) ∙ f.second))
    (λ g. rw w.text (after_blank f.value f.rest qs r (sym (ap (λ (b : Bool). b || is_blank f.value) g) ∙ w.one)
    (sym (ap (λ (b : Bool). cond b (got []) (sign (word "q;") >>= rest_of) f.rest) g) ∙ f.second)))
    (either (eqb f.value 59))

from_here : {A : Type 0} {T : A → List ℕ → List ℕ → Type 0} {P : Reader A} → ((s : List ℕ) (a : A) (r : List ℕ) → P s ≡ got a r → T a s r) → Tells T [] P
from_here {A} {T} {P} f = record { tells = λ s₀ s a r h e. at_start s₀ s a r h (f s a r e) }
  where
    at_start : (s₀ s : List ℕ) (a : A) (r : List ℕ) → Spells [] s₀ s → T a s r → T a s₀ r
    at_start s₀ s a r none x = x

module _ {B : Type 0} {T : B → List ℕ → List ℕ → Type 0} where
  tells_names : {ts : List Token} (K : List ℕ → Reader B) → ((qs : List ℕ) → queues qs ≡ true → Tells T (ts ++ names_tokens qs) (K qs)) → Tells T ts (names >>= K)
  tells_names K f =
      tells_sub K (from_here {T = NamesRead} names_said) (λ qs s₀ s m h x b r e. (f qs x.0).tells s₀ m b r (spells_then h x.1) e)

  tells_must : {ts : List Token} (K : ℕ → Reader B) → ((n : ℕ) → n ≤ 255 → Tells T (ts ++ (byte_as must n ∷ [])) (K n)) → Tells T ts (here BLANKS >> (byte >>= K))
  tells_must K f =
      record {
        tells = λ s₀ s b r h e.
            let g = between (here BLANKS s) (λ (x : ℕ). byte >>= K) e in
            let w = here_was BLANKS s g.first in
            let i = between (byte g.rest) K g.second in
            let k = blanks_of g.rest in
            let j = sym (ap (λ (x : Res ℕ). bind x (λ (b : ℕ). digits 255 (b - 48))) (sign_after (word "0123456789") g.rest)) ∙ i.first in
            (f i.value (decimal_most 255 (omega arith) (after_blanks g.rest) j)).tells s₀ i.rest b r
            (spells_then h (more (record {
              blanks = g.value ∷ k.blanks;
              free = both_of (is_blank g.value) (all is_blank k.blanks) w.one k.free;
              text = w.text ∙ ap (λ (l : List ℕ). g.value ∷ l) (k.text ∙ ap (λ (l : List ℕ). k.blanks ++ l) (decimal_text 255 (after_blanks g.rest) j));
            }) none))
            i.second;
      }

-- ---- the head

record HeadRead (t : Tree) (s r : List ℕ) : Type 0 where
  outputs : queues t.outputs ≡ true
  inputs : queues t.inputs ≡ true
  variables : t.variables ≤ 255
  bare : t ≡ tree_of t.outputs t.inputs t.variables []
  spells : Spells (head_tokens t.outputs t.inputs t.variables) s r

head_tokens_lem : (a b : List Token) (x y z w v : Token) → ((((((x ∷ a) ++ (y ∷ [])) ++ b) ++ (z ∷ [])) ++ (w ∷ [])) ++ (v ∷ [])) ≡ x ∷ (a ++ (y ∷ (b ++ (z ∷ w ∷ v ∷ []))))
head_tokens_lem [] [] x y z w v = refl
head_tokens_lem [] (c ∷ b) x y z w v = ap (λ (l : List Token). x ∷ y ∷ c ∷ l) (tail b z w v)
  where
    tail : (b : List Token) (z w v : Token) → (((b ++ (z ∷ [])) ++ (w ∷ [])) ++ (v ∷ [])) ≡ b ++ (z ∷ w ∷ v ∷ [])
    tail [] z w v = refl
    tail (c ∷ b) z w v = ap (λ (l : List Token). c ∷ l) (tail b z w v)
head_tokens_lem (c ∷ a) b x y z w v = ap (λ (l : List Token). x ∷ l) (head_tokens_lem a b c y z w v)

tells_head : Tells HeadRead [] head
tells_head =
    tells_sign _ _ (
      inside_spell (word "o") (word "utput") _ (inside_tight (tells_names _ (λ outs ho.
          tells_sign _ _ (
            inside_spell (word "i") (word "nput") _ (inside_loose (tells_names _ (λ ins hi.
                tells_sign _ _ (
                  inside_spell (word "v") (word "ars") _ (inside_loose (tells_must _ (λ v hv.
                      tells_sign _ _ (
                        inside_tight (tells_done (λ s r h. record {
                          outputs = ho;
                          inputs = hi;
                          variables = hv;
                          bare = refl;
                          spells = rw (← head_tokens_lem (names_tokens outs) (names_tokens ins) (at_once "output") (spaced "input") (spaced "vars") (byte_as must v) (at_once ";")) h;
                        })),
                        tt,
                      )))),
                  tt,
                )))),
            tt,
          )))),
      tt,
    )

-- ---- the operators, up to the end

record OpsRead (outs ins : List ℕ) (v : ℕ) (ps : List Op) (t : Tree) (s : List ℕ) : Type 0 where
  ops : List Op
  same : t ≡ tree_of outs ins v (ps ++ ops)
  good : GoodOps ops
  rest : List ℕ
  spells : Spells (ops_tokens ops) s rest
  blank : all is_blank rest ≡ true

record ItemRead (t u : Tree) (s r : List ℕ) : Type 0 where
  op : Op
  good : GoodOp op
  same : u ≡ tree_of t.outputs t.inputs t.variables (t.ops ++ (op ∷ []))
  spells : Spells (op_tokens op ++ (at_once ";" ∷ [])) s r

tells_mark : (t : Tree) (o : Op) → GoodOp o →
    Tells (ItemRead t) (op_tokens o) (sign (word ";") >> got (tree_of t.outputs t.inputs t.variables (t.ops ++ (o ∷ []))))
tells_mark t o h = tells_sign _ _ (inside_tight (tells_done (λ s r e. record { op = o; good = h; same = refl; spells = e })), tt)

tells_item : (t : Tree) → Tells (ItemRead t) [] (item t)
tells_item t = tells_sub _ tells_operator (λ o s₀ s m h x b r e. (tells_mark t o x.0).tells s₀ m b r (spells_then h x.1) e)

ops_end : (outs ins : List ℕ) (v : ℕ) (ps : List Op) (t : Tree) (s : List ℕ) → all is_blank s ≡ true → got (tree_of outs ins v ps) [] ≡ got t [] →
    OpsRead outs ins v ps t s
ops_end outs ins v ps t s h e =
    let i : tree_of outs ins v ps ≡ t = cc in
    record { ops = []; same = sym i ∙ ap (tree_of outs ins v) (sym (append-nil ps)); good = no_ops; rest = s; spells = none; blank = h }

ops_more : (outs ins : List ℕ) (v : ℕ) (ps : List Op) (t u : Tree) (s m : List ℕ) (i : ItemRead (tree_of outs ins v ps) u s m) →
    OpsRead outs ins v (ps ++ (i.op ∷ [])) t m → OpsRead outs ins v ps t s
ops_more outs ins v ps t u s m i x =
    record {
      ops = i.op ∷ x.ops;
      same = x.same ∙ ap (tree_of outs ins v) (append_assoc ps (i.op ∷ []) x.ops);
      good = one_op i.good x.good;
      rest = x.rest;
      spells = spells_then i.spells x.spells;
      blank = x.blank;
    }

ops_said : (n : ℕ) (outs ins : List ℕ) (v : ℕ) (ps : List Op) (t : Tree) (s : List ℕ) → length s < n → to_end item (tree_of outs ins v ps) s ≡ got t [] →
    OpsRead outs ins v ps t s
ops_said zero outs ins v ps t s l e = absurd (omega arith)
ops_said (suc n) outs ins v ps t s l e =
    let a = tree_of outs ins v ps in
    ⊎_elim (λ h. ops_end outs ins v ps t s h (sym (ended item (exact_item with_op) (no_item with_op) a s h) ∙ e))
    (λ h.
    let f = between (item a s) (to_end item) (sym (goes_on item (exact_item with_op) (no_item with_op) a s h) ∙ e) in
    let i = (tells_item a).tells s s f.value f.rest none f.first in
    ops_more outs ins v ps t f.value s f.rest i
    (ops_said n outs ins v (ps ++ (i.op ∷ [])) t f.rest (let k = smaller item (exact_item with_op) (no_item with_op) a s f.value f.rest f.first in omega arith)
    (sym (ap (λ (u : Tree). to_end item u f.rest) i.same) ∙ f.second)))
    (either (all is_blank s))

-- what is read as t is a text of the grammar that stands for t
pub text_sound : (t : Tree) (s : List ℕ) → text s ≡ got t [] → TextOf t s
text_sound t s e =
    let f = between (head s) (to_end item) e in
    let h = tells_head.tells s s f.value f.rest none f.first in
    let a = f.value in
    let x = ops_said (suc (length f.rest)) a.outputs a.inputs a.variables [] t f.rest (omega arith)
    (sym (ap (λ (u : Tree). to_end item u f.rest) h.bare) ∙ f.second) in
    rw x.same
    (record {
      good = record { outputs = h.outputs; inputs = h.inputs; variables = h.variables; ops = x.good };
      rest = x.rest;
      spells = rw (text_tokens_lem a.outputs a.inputs a.variables x.ops) (spells_then h.spells x.spells);
      blank = x.blank;
    })

-- ---- 19, exactly: every list of bytes is a text of the grammar; or what stands before a byte B can be carried on to one, and with byte B
-- nothing can; or it is the beginning of one

pub record Carried (u : List ℕ) : Type 0 where
  pub end : List ℕ
  pub tree : Tree
  pub text : TextOf tree (u ++ end)

pub data Exactly (s : List ℕ) : Type 0 where
  is_text : (t : Tree) → TextOf t s → text s ≡ got t [] → Exactly s
  dies : (u : List ℕ) (b : ℕ) (t : List ℕ) → s ≡ u ++ (b ∷ t) → Carried u → ((x : List ℕ) (w : Tree) → TextOf w (u ++ (b ∷ x)) → ⊥) → text s ≡ lost (b ∷ t) → Exactly s
  begins : Carried s → ((w : Tree) → TextOf w s → ⊥) → text s ≡ lost [] → Exactly s

carried : {u : List ℕ} → Carries text u → Carried u
carried {u} c = record { end = c.end; tree = c.value; text = text_sound c.value (u ++ c.end) c.reads }

no_text : (s l : List ℕ) (w : Tree) → text s ≡ lost l → TextOf w s → ⊥
no_text s l w e h = let f = text_complete w s h in absurd (let z : ◌≡◌ {A = ℕ} 0 1 = cc in omega arith)

exactly_by : (s : List ℕ) → Whole text s → Exactly s
exactly_by s (whole.text t e) = is_text t (text_sound t s e) e
exactly_by s (dead u b t e c d) =
    dies u b t e (carried c) (λ x w h. no_text (u ++ (b ∷ x)) (b ∷ x) w (d x) h) (ap text e ∙ d t)
exactly_by s (cut c d) = begins (carried c) (λ w h. no_text s [] w d h) d

pub exactly : (s : List ℕ) → Exactly s
exactly s = exactly_by s (text_exact s)
