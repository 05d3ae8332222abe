-- Reading a chain of records: it gives back the operators that were written, and the operators that it gives were written so.
-- Assumes nothing.
use mathlib.Core.Path.{◌≡◌, refl, ap, ◌∙◌, sym}
use mathlib.Core.Logic.{◌⊎◌, inl, inr, ⊎_elim}
use mathlib.Core.List.{List, [], ◌∷◌, ◌++◌, append_assoc}
use Prim.Native.Nat.{ℕ, zero, suc, ◌+◌, ◌<◌, ◌≤◌}
use native.Mathlib.Omega.{arith}
use lib.ListN.{length, get_or, length-append}
use Rattle.base_lists.specs.Lists.{chain}
use Rattle.base_lists.proofs.Build.{same_or}
use Rattle.sheet_operator.specs.Op.{Op, Abstract, with}
use Rattle.sheet_judge.specs.Judge.{known, judge}
use Rattle.sheet_format.specs.Record.{Taken, bad, took, taken, op_in, rest_in, op_bytes}
use Rattle.sheet_format.proofs.Sizes.{FitsOp}
use Rattle.sheet_format.proofs.Written.{taken_of_bytes}
use Rattle.sheet_format.proofs.Read.{number_of_bad, small_of_taken, rest_below, bytes_of_taken}
use Rattle.sheet.specs.Check.{stopped, kept, next_record}
use Rattle.sheet.proofs.Turns.{judged_most}
use Rattle.sheet.proofs.Placed.{nth}
use Rattle.codec_read.specs.Read.{number_after, read_from}
use Rattle.codec_read.proofs.Turns.{read_more, read_refuse, read_none}
use Rattle.codec_read.proofs.Follow.{with_all, with_none, with_more, Follow, follow_none, follow_first, follow_rest, follow_more, judged_known}

-- a record that is taken and kept, and one that is refused
read_took : (n : ℕ) (a : Abstract) (s : List ℕ) (o : Op) (rest : List ℕ) → taken s ≡ took o rest → judge a o ≡ 0 →
    read_from (suc n) a s ≡ read_from n (with a o) rest
read_took n a s o rest e j =
    read_more n a s (ap (number_after a) e ∙ j) ∙ ap (λ (r : Taken). read_from n (with a (op_in r)) (rest_in r)) e

read_not : (n m : ℕ) (a : Abstract) (s : List ℕ) → number_after a (taken s) ≡ m → (m ≡ 0 → ⊥) → read_from (suc n) a s ≡ stopped m (next_record a)
read_not n m a s e h = read_refuse n a s (λ z. h (sym e ∙ z)) ∙ ap (λ (k : ℕ). stopped k (next_record a)) e

-- what was written is read
pub read_chain : (os : List Op) (a : Abstract) (rest : List ℕ) → Follow a os → ((k : ℕ) → k < length os → FitsOp (nth os k)) →
    read_from (length os) a (chain op_bytes os ++ rest) ≡ kept (with_all a os) rest
read_chain [] a rest f g = read_none a rest ∙ ap (λ (b : Abstract). kept b rest) (sym (with_none a))
read_chain (o ∷ os) a rest f g =
    let after = chain op_bytes os ++ rest in
    ap (read_from (suc (length os)) a) (append_assoc (op_bytes o) (chain op_bytes os) rest)
    ∙ read_took (length os) a (op_bytes o ++ after) o after (taken_of_bytes o after (f.small 0 (omega arith)) (g 0 (omega arith))) (follow_first a o os f)
    ∙ read_chain os (with a o) rest (follow_rest a o os f) (λ k l. g (suc k) (omega arith))
    ∙ ap (λ (b : Abstract). kept b rest) (with_more a o os)

-- what reading n records comes to: that many operators, whose records the bytes are, or a refusal
pub record Holds (n : ℕ) (a : Abstract) (s : List ℕ) : Type 0 where
  pub ops : List Op
  pub rest : List ℕ
  pub size : length ops ≡ n
  pub follow : Follow a ops
  pub reads : read_from n a s ≡ kept (with_all a ops) rest
  pub bytes : ((k : ℕ) → get_or s k 0 < 256) → chain op_bytes ops ++ rest ≡ s

pub record Halts (n : ℕ) (a : Abstract) (s : List ℕ) : Type 0 where
  pub number : ℕ
  pub spot : ℕ
  pub reads : read_from n a s ≡ stopped number spot
  pub least : 1 ≤ number
  pub most : number ≤ 7
  pub within : spot ≤ length a.ops + n

holds_none : (a : Abstract) (s : List ℕ) → Holds 0 a s
holds_none a s =
    record {
      ops = [];
      rest = s;
      size = refl;
      follow = follow_none a;
      reads = read_none a s ∙ ap (λ (b : Abstract). kept b s) (sym (with_none a));
      bytes = λ h. refl;
    }

holds_more : (n : ℕ) (a : Abstract) (s : List ℕ) (o : Op) (rest : List ℕ) → taken s ≡ took o rest → judge a o ≡ 0 → Holds n (with a o) rest → Holds (suc n) a s
holds_more n a s o rest e j h =
    record {
      ops = o ∷ h.ops;
      rest = h.rest;
      size = ap suc h.size;
      follow = follow_more a o h.ops j (small_of_taken s o rest e) h.follow;
      reads = read_took n a s o rest e j ∙ h.reads ∙ ap (λ (b : Abstract). kept b h.rest) (with_more a o h.ops);
      bytes =
          λ below.
          append_assoc (op_bytes o) (chain op_bytes h.ops) h.rest
          ∙ ap (λ (l : List ℕ). op_bytes o ++ l) (h.bytes (rest_below s o rest below e))
          ∙ bytes_of_taken s o rest below e (judged_known a o j);
    }

halts_more : (n : ℕ) (a : Abstract) (s : List ℕ) (o : Op) (rest : List ℕ) → taken s ≡ took o rest → judge a o ≡ 0 → Halts n (with a o) rest → Halts (suc n) a s
halts_more n a s o rest e j h =
    record {
      number = h.number;
      spot = h.spot;
      reads = read_took n a s o rest e j ∙ h.reads;
      least = h.least;
      most = h.most;
      within = omega (arith, h.within, length-append a.ops (o ∷ []));
    }

halts_here : (n m : ℕ) (a : Abstract) (s : List ℕ) → number_after a (taken s) ≡ m → (m ≡ 0 → ⊥) → m ≤ 7 → Halts (suc n) a s
halts_here n m a s e h l =
    record { number = m; spot = next_record a; reads = read_not n m a s e h; least = omega arith; most = l; within = omega arith }

read_turn : (n : ℕ) (a : Abstract) (s : List ℕ) (t : Taken) → taken s ≡ t → ((b : Abstract) (r : List ℕ) → Holds n b r ⊎ Halts n b r) →
    Holds (suc n) a s ⊎ Halts (suc n) a s
read_turn n a s (bad m) e more =
    let b = number_of_bad s m e in
    inr (halts_here n m a s (ap (number_after a) e) (λ z. omega arith) (omega arith))
read_turn n a s (took o rest) e more =
    ⊎_elim
    (λ (z : judge a o ≡ 0).
    ⊎_elim (λ h. inl (holds_more n a s o rest e z h)) (λ h. inr (halts_more n a s o rest e z h)) (more (with a o) rest))
    (λ (nz : judge a o ≡ 0 → ⊥). inr (halts_here n (judge a o) a s (ap (number_after a) e) nz (judged_most a.queues a.variables (known a) o)))
    (same_or (judge a o) 0)

pub read_cases : (n : ℕ) (a : Abstract) (s : List ℕ) → Holds n a s ⊎ Halts n a s
read_cases zero a s = inl (holds_none a s)
read_cases (suc n) a s = read_turn n a s (taken s) refl (read_cases n)
