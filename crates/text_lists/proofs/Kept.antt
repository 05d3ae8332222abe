-- What is kept of a list with one name more, and of the list that is read.
-- Assumes nothing.
use Prim.Native.Nat.{ℕ, suc, ◌+◌, ◌<◌, ◌≤◌}
use mathlib.Core.Path.{◌≡◌, refl, ap, ◌∙◌, sym}
use mathlib.Core.Logic.{⊎_elim}
use mathlib.Core.Bool.{Bool, true, false, cond}
use mathlib.Core.List.{List, [], ◌∷◌}
use lib.Dec.{eqb}
use lib.ListN.{drop, set}
use borrow.Author.Tests.{le-leb, lt-leb}
use Rattle.std.specs.Prelude.{Result}
use Rattle.base_bounds.specs.Bounds.{QUEUES}
use Rattle.base_words.specs.Text.{word}
use Rattle.text_scan.specs.declared.Read.{Read}
use Rattle.text_scan.specs.declared.Lost.{Lost}
use Rattle.text_scan.specs.Reader.{Res, got, lost, Reader, bind, ◌>>=◌, repeat, sign, here, BLANKS}
use Rattle.text_scan.specs.Reads.{Reads}
use Rattle.text_scan.proofs.Filled.{Next, Over, next_or_over}
use Rattle.text_grammar.specs.Readers.{name_turn, names_by, names, snoc}
use Rattle.text_grammar.proofs.Kept.{names_kept_lem}
use Rattle.text_lists.specs.declared.KeptNames.{KeptNames}
use Rattle.text_lists.specs.declared.NameList.{NameList}
use Rattle.text_lists.specs.Names.{kept_of, none, noted, names_in}

-- ---- one name more

noted_full : (n : KeptNames) (q : ℕ) → QUEUES ≤ n.count → record { count = suc QUEUES; queues = n.queues } ≡ noted n q
unfolding noted
noted_full n q h = rw (le-leb QUEUES n.count h)

noted_more : (n : KeptNames) (q : ℕ) → n.count < QUEUES → record { count = n.count + 1; queues = set n.queues n.count q } ≡ noted n q
unfolding noted
noted_more n q h = rw (lt-leb QUEUES n.count h)

-- ---- a list with one name more

kept_eq : {a b : ℕ} {l m : List ℕ} → a ≡ b → l ≡ m → ◌≡◌ {A = KeptNames} (record { count = a; queues = l }) (record { count = b; queues = m })
kept_eq {a} {b} {l} {m} e d =
    ap (λ (n : ℕ). record { count = n; queues = l }) e ∙ ap (λ (k : List ℕ). record { count = b; queues = k }) d

pub noted_kept : (qs : List ℕ) (q : ℕ) → noted (kept_of qs) q ≡ kept_of (snoc qs q)
noted_kept qs q =
    ⊎_elim
    (λ (h : Next QUEUES 0 qs q). sym (noted_more (kept_of qs) q h.room) ∙ kept_eq h.count h.places)
    (λ (h : Over QUEUES 0 qs q). sym (noted_full (kept_of qs) q h.full) ∙ kept_eq h.count h.places)
    (next_or_over QUEUES 0 qs q)

-- ---- the list that is read

abbrev kept : List ℕ → Reader KeptNames
kept qs = got (kept_of qs)

after_q : (x : Res ℕ) →
    bind x (λ (c : ℕ). cond (eqb c 59) (got none) (repeat (name_turn noted) none))
    ≡ bind (bind x (λ (c : ℕ). cond (eqb c 59) (got []) (repeat (name_turn snoc) []))) kept
after_q (lost t) = refl
after_q (got c t) = by (eqb c 59)
  where
    by : (b : Bool) → cond b (got none) (repeat (name_turn noted) none) t ≡ bind (cond b (got []) (repeat (name_turn snoc) []) t) kept
    by true = refl
    by false = names_kept_lem kept_of snoc noted noted_kept [] t

after_word : (x : Res ℕ) →
    bind x (λ (b : ℕ). cond (eqb b 59) (got none) (sign (word "q;") >>= λ (c : ℕ). cond (eqb c 59) (got none) (repeat (name_turn noted) none)))
    ≡ bind (bind x (λ (b : ℕ). cond (eqb b 59) (got []) (sign (word "q;") >>= λ (c : ℕ). cond (eqb c 59) (got []) (repeat (name_turn snoc) [])))) kept
after_word (lost t) = refl
after_word (got b t) = by (eqb b 59)
  where
    by : (c : Bool) →
        cond c (got none) (sign (word "q;") >>= λ (c : ℕ). cond (eqb c 59) (got none) (repeat (name_turn noted) none)) t
        ≡ bind (cond c (got []) (sign (word "q;") >>= λ (c : ℕ). cond (eqb c 59) (got []) (repeat (name_turn snoc) [])) t) kept
    by true = refl
    by false = after_q (sign (word "q;") t)

-- what is kept by the program is kept of the list
names_by_kept : (s : List ℕ) → names_by noted none s ≡ bind (names s) kept
names_by_kept s = after_word (here (59 ∷ BLANKS) s)

pub reads_kept : {s : List ℕ} {at : ℕ} {r : Result (Read NameList) Lost} → Reads names_in s at (names_by noted none) r →
    Reads names_in s at (λ (t : List ℕ). bind (names t) kept) r
reads_kept {s} {at} g = record { within = g.within; reads = g.reads ∙ names_by_kept (drop at s) }
