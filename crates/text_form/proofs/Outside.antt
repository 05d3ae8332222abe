-- 19 in the first sense, exactly: where a text is outside the grammar, at which byte, and that the bytes up to there alone decide it.
-- Assumes nothing.
use mathlib.Core.Path.{◌≡◌, refl, ap, ◌∙◌, sym}
use mathlib.Core.List.{List, [], ◌∷◌, ◌++◌, append_assoc}
use Prim.Native.Nat.{ℕ}
use native.Mathlib.Omega.{arith}
use lib.ListN.{length, take, length-append}
use lib.Seq.{take_at}
use Rattle.text_scan.specs.Reader.{Res, got, lost}
use Rattle.text_grammar.specs.Readers.{Tree, text}
use Rattle.text_grammar.specs.Tokens.{TextOf}
use Rattle.text_grammar.proofs.CompleteText.{text_complete}
use Rattle.text_grammar.proofs.Sheets.{Carried, Exactly, is_text, dies, begins, exactly}
use Rattle.text_form.specs.Reading.{outside, byte_of, tree_answer, read_text_of}
use Rattle.text_form.proofs.Owned.{answer_as}

-- ---- the byte

pub byte_before : (u v : List ℕ) → byte_of (u ++ v) v ≡ length u
byte_before u v = omega (arith, length-append u v)

byte_end : (s : List ℕ) → byte_of s [] ≡ length s
byte_end s = omega arith

pub lost_before : (u : List ℕ) (b : ℕ) (v : List ℕ) → text (u ++ (b ∷ v)) ≡ lost (b ∷ v) → (read_text_of (u ++ (b ∷ v))).answer ≡ outside (length u)
lost_before u b v e = answer_as (u ++ (b ∷ v)) (lost (b ∷ v)) e ∙ ap outside (byte_before u (b ∷ v))

pub lost_end : (s : List ℕ) → text s ≡ lost [] → (read_text_of s).answer ≡ outside (length s)
lost_end s e = answer_as s (lost []) e ∙ ap outside (byte_end s)

-- ---- a text of the grammar is never outside it: its answer is the sheet's, or that of its lists

pub text_never_outside : (t : Tree) (s : List ℕ) → TextOf t s → (text s ≡ got t []) × ((read_text_of s).answer ≡ tree_answer s t)
text_never_outside t s h = let e = text_complete t s h in (e, answer_as s (got t []) e)

-- ---- every list of bytes is one of three: a text of the grammar; or bytes that can be carried on to one, and a byte after which nothing can;
-- or the beginning of one, and no more

pub data OutsideExact (s : List ℕ) : Type 0 where
  a_text : (t : Tree) → TextOf t s → text s ≡ got t [] → OutsideExact s
  refused_at_lem : (u : List ℕ) (b : ℕ) (v : List ℕ) → s ≡ u ++ (b ∷ v) → text s ≡ lost (b ∷ v) → (read_text_of s).answer ≡ outside (length u) → Carried u →
      ((x : List ℕ) (t : Tree) → TextOf t (u ++ (b ∷ x)) → ⊥) → OutsideExact s
  cut_short : text s ≡ lost [] → (read_text_of s).answer ≡ outside (length s) → Carried s → ((t : Tree) → TextOf t s → ⊥) → OutsideExact s

exact_by : (s : List ℕ) → Exactly s → OutsideExact s
exact_by s (is_text t h e) = a_text t h e
exact_by s (dies u b v e c d g) = refused_at_lem u b v e g (rw e (lost_before u b v (sym (ap text e) ∙ g))) c d
exact_by s (begins c d g) = cut_short g (lost_end s g) c d

pub outside_exact : (s : List ℕ) → OutsideExact s
outside_exact s = exact_by s (exactly s)

-- ---- and the other way: wherever bytes can be carried on, and with the next byte cannot, that byte is refused; and where they can but are no text, their end

-- two ways to cut a list at a byte
data Cuts (u : List ℕ) (b : ℕ) (v w : List ℕ) (c : ℕ) (t : List ℕ) : Type 0 where
  same : u ≡ w → b ∷ v ≡ c ∷ t → Cuts u b v w c t
  longer : (y : List ℕ) → u ≡ w ++ (c ∷ y) → Cuts u b v w c t
  shorter : (y : List ℕ) → w ≡ u ++ (b ∷ y) → Cuts u b v w c t

cuts_next : (x y : ℕ) (u : List ℕ) (b : ℕ) (v w : List ℕ) (c : ℕ) (t : List ℕ) → x ≡ y → Cuts u b v w c t → Cuts (x ∷ u) b v (y ∷ w) c t
cuts_next x y u b v w c t e (same f g) = same (cc) g
cuts_next x y u b v w c t e (longer z f) = longer z (cc)
cuts_next x y u b v w c t e (shorter z f) = shorter z (cc)

cuts : (u : List ℕ) (b : ℕ) (v w : List ℕ) (c : ℕ) (t : List ℕ) → u ++ (b ∷ v) ≡ w ++ (c ∷ t) → Cuts u b v w c t
cuts [] b v [] c t e = same refl e
cuts [] b v (y ∷ w) c t e = let f : y ≡ b = cc in shorter w (cc)
cuts (x ∷ u) b v [] c t e = let f : x ≡ c = cc in longer u (cc)
cuts (x ∷ u) b v (y ∷ w) c t e = cuts_next x y u b v w c t (cc) (cuts u b v w c t (cc))

-- bytes that go on past a dead one are not carried on
past_dead : (w : List ℕ) (c : ℕ) (y u : List ℕ) → u ≡ w ++ (c ∷ y) → Carried u → ((x : List ℕ) (t : Tree) → TextOf t (w ++ (c ∷ x)) → ⊥) → ⊥
past_dead w c y u e k d =
    d (y ++ k.end) k.tree (rw (ap (λ (l : List ℕ). l ++ k.end) e ∙ append_assoc w (c ∷ y) k.end) at k.text)

module _ (u : List ℕ) (b : ℕ) (carried : Carried u) (dead : (x : List ℕ) (t : Tree) → TextOf t (u ++ (b ∷ x)) → ⊥) (v : List ℕ) where
  refused_by : Exactly (u ++ (b ∷ v)) → text (u ++ (b ∷ v)) ≡ lost (b ∷ v)
  refused_by (is_text t h e) = absurd (dead v t h)
  refused_by (begins c d g) = absurd (past_dead u b v (u ++ (b ∷ v)) refl c dead)
  refused_by (dies w c t e k d g) = by (cuts u b v w c t e)
    where
      by : Cuts u b v w c t → text (u ++ (b ∷ v)) ≡ lost (b ∷ v)
      by (same f i) = g ∙ ap lost (sym i)
      by (longer y f) = absurd (past_dead w c y u f carried d)
      by (shorter y f) = absurd (past_dead u b y w f k dead)

  pub outside_where_dead : (text (u ++ (b ∷ v)) ≡ lost (b ∷ v)) × ((read_text_of (u ++ (b ∷ v))).answer ≡ outside (length u))
  outside_where_dead = let e = refused_by (exactly (u ++ (b ∷ v))) in (e, lost_before u b v e)

cut_by : (s : List ℕ) → Carried s → ((t : Tree) → TextOf t s → ⊥) → Exactly s → text s ≡ lost []
cut_by s k n (is_text t h e) = absurd (n t h)
cut_by s k n (dies w c t e f d g) = absurd (past_dead w c t s e k d)
cut_by s k n (begins c d g) = g

pub outside_where_cut : (s : List ℕ) → Carried s → ((t : Tree) → TextOf t s → ⊥) → (text s ≡ lost []) × ((read_text_of s).answer ≡ outside (length s))
outside_where_cut s k n = let e = cut_by s k n (exactly s) in (e, lost_end s e)

-- ---- the bytes up to a refused one decide: whatever follows it, the refusal is the same

got_not_lost : {A : Type 0} {a : A} {r l : List ℕ} → ◌≡◌ {A = Res A} (got a r) (lost l) → ⊥
got_not_lost e = let z : ◌≡◌ {A = ℕ} 0 1 = cc in omega arith

end_not_byte : {b : ℕ} {v : List ℕ} → ◌≡◌ {A = Res Tree} (lost []) (lost (b ∷ v)) → ⊥
end_not_byte {b} {v} e = let z : ◌≡◌ {A = List ℕ} [] (b ∷ v) = cc in omega (arith, ap length z)

left_is : {l m : List ℕ} → ◌≡◌ {A = Res Tree} (lost l) (lost m) → l ≡ m
left_is e = cc

-- what stands before a common end is the same
same_front : (u w v : List ℕ) → u ++ v ≡ w ++ v → u ≡ w
same_front u w v e =
    let n : length u ≡ length w = omega (arith, ap length e, length-append u v, length-append w v) in
    sym (take_at u v (length w) n) ∙ ap (λ (l : List ℕ). take (length w) l) e ∙ take_at w v (length w) refl

front_by : (u : List ℕ) (b : ℕ) (v : List ℕ) → text (u ++ (b ∷ v)) ≡ lost (b ∷ v) → Exactly (u ++ (b ∷ v)) →
    (x : List ℕ) → (text (u ++ (b ∷ x)) ≡ lost (b ∷ x)) × ((read_text_of (u ++ (b ∷ x))).answer ≡ outside (length u))
front_by u b v e (is_text t h g) x = absurd (got_not_lost (sym g ∙ e))
front_by u b v e (begins c d g) x = absurd (end_not_byte (sym g ∙ e))
front_by u b v e (dies w c t g k d f) x =
    let l : c ∷ t ≡ b ∷ v = left_is (sym f ∙ e) in
    let j : c ≡ b = cc in
    let i : w ≡ u = same_front w u (c ∷ t) (sym g ∙ ap (λ (m : List ℕ). u ++ m) (sym l)) in
    rw (← i, ← j) (outside_where_dead w c k d x)

pub outside_by_front : (u : List ℕ) (b : ℕ) (v : List ℕ) → text (u ++ (b ∷ v)) ≡ lost (b ∷ v) →
    (x : List ℕ) → (text (u ++ (b ∷ x)) ≡ lost (b ∷ x)) × ((read_text_of (u ++ (b ∷ x))).answer ≡ outside (length u))
outside_by_front u b v e x = front_by u b v e (exactly (u ++ (b ∷ v))) x
