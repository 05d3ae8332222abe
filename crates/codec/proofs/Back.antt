-- There and back: the bytes of an accepted sheet are read as that sheet, and a sheet that is read is accepted and has the bytes that it was read from.
-- Assumes nothing.
use mathlib.Core.Path.{◌≡◌, refl, ap, ◌∙◌, sym}
use mathlib.Core.Bool.{true}
use mathlib.Core.List.{List, [], ◌++◌, append-nil}
use Prim.Native.Nat.{ℕ, ◌<◌}
use lib.ListN.{length, get_or, drop}
use Rattle.base_lists.specs.Lists.{chain}
use Rattle.base_lists.proofs.Build.{build_length}
use Rattle.sheet_operator.specs.Op.{Abstract}
use Rattle.sheet_operator.specs.Memory.{view}
use Rattle.sheet_format.specs.Record.{op_bytes}
use Rattle.sheet_format.specs.Head.{HEAD_BYTES, head_good, head_bytes}
use Rattle.sheet_format.proofs.Heads.{head_inputs, head_queues, head_variables, head_count, after_head, head_of_bytes, ranges_of_good, head_good_of_number}
use Rattle.sheet_format.proofs.Heads.{bytes_of_head}
use Rattle.sheet.specs.declared.Sheet.{Sheet}
use Rattle.sheet.specs.Answer.{accepted}
use Rattle.sheet.specs.Sheet.{op_at, view_to, view_sheet, memory_sheet, HeldSheet}
use Rattle.sheet.specs.Check.{Kept, kept}
use Rattle.sheet.proofs.Accepted.{Accepted, facts_accepted}
use Rattle.sheet.proofs.Placed.{view_back}
use Rattle.sheet.proofs.InMemory.{memory_back}
use Rattle.codec_read.specs.Read.{read_from, head_in, Reading, read_end, read_of}
use Rattle.codec_write.specs.Write.{sheet_bytes}
use Rattle.codec_read.proofs.Follow.{with_all}
use Rattle.codec_read.proofs.Chain.{read_chain}
use Rattle.codec_read.proofs.InMemory.{accepted_memory, follow_view, fits_view}
use Rattle.codec_read.proofs.Answers.{read_good, read_ends, reading, Accepts, accepts_of_answer}

-- the bytes of an accepted sheet are read as that sheet
head_back : (i q v n : ℕ) (rest : List ℕ) → head_in (head_bytes i q v n ++ rest) ≡ record { inputs = i; queues = q; variables = v; ops = [] }
head_back i q v n rest = rw (head_inputs i q v n rest, head_queues i q v n rest, head_variables i q v n rest)

read_after_head : (i q v n : ℕ) (rest : List ℕ) (k : Kept) → head_good i q v n ≡ true →
    read_from n (record { inputs = i; queues = q; variables = v; ops = [] }) rest ≡ k → read_of (head_bytes i q v n ++ rest) ≡ read_end k
read_after_head i q v n rest k good e =
    let s = head_bytes i q v n ++ rest in
    read_good s k (head_of_bytes i q v n rest good)
    (ap (λ (m : ℕ). read_from m (head_in s) (drop HEAD_BYTES s)) (head_count i q v n rest)
    ∙ ap (λ (a : Abstract). read_from n a (drop HEAD_BYTES s)) (head_back i q v n rest)
    ∙ ap (read_from n (record { inputs = i; queues = q; variables = v; ops = [] })) (after_head i q v n rest)
    ∙ e)

pub read_of_bytes : (t : Sheet) → HeldSheet t → Accepted t → read_of (sheet_bytes (view_sheet t)) ≡ record { answer = accepted; sheet = t }
read_of_bytes t held good =
    let a = view_sheet t in
    let count = build_length t.count (λ (j : ℕ). view (op_at t j)) in
    let head : head_good t.inputs t.queues t.variables (length a.ops) ≡ true = rw count good.head in
    let chained = chain op_bytes a.ops in
    read_after_head t.inputs t.queues t.variables (length a.ops) chained (kept a []) head
    (ap (read_from (length a.ops) (view_to t 0)) (sym (append-nil chained)) ∙ read_chain a.ops (view_to t 0) [] (follow_view t good) (fits_view t good held))
    ∙ ap (reading a) (read_ends a [] true true refl good.defined)
    ∙ ap (λ (x : Sheet). record { answer = accepted; sheet = x }) (memory_back t (facts_accepted t good) held)

-- the sheet that the bytes of an accepted reading stand for: its head is good, it is accepted, and its bytes are those
module _ (s : List ℕ) (a : Accepts s) where
  abbrev sheet_in : Abstract
  sheet_in = with_all (head_in s) a.ops

  good_head : head_good (get_or s 4 0) (get_or s 5 0) (get_or s 6 0) (length a.ops) ≡ true
  good_head = rw a.size (head_good_of_number s a.head)

  accepted_sheet : Accepted (memory_sheet sheet_in)
  accepted_sheet = accepted_memory sheet_in good_head a.follow a.defined

  sheet_bytes_lem : ((k : ℕ) → get_or s k 0 < 256) → sheet_bytes (view_sheet (memory_sheet sheet_in)) ≡ s
  sheet_bytes_lem below =
      ap sheet_bytes
      (view_back sheet_in (ranges_of_good (get_or s 4 0) (get_or s 5 0) (get_or s 6 0) (length a.ops) good_head).count a.follow.small)
      ∙ ap (λ (n : ℕ). head_bytes (get_or s 4 0) (get_or s 5 0) (get_or s 6 0) n ++ chain op_bytes a.ops) a.size
      ∙ ap (λ (l : List ℕ). head_bytes (get_or s 4 0) (get_or s 5 0) (get_or s 6 0) (get_or s 7 0) ++ l) (a.bytes below)
      ∙ bytes_of_head s a.head below

module _ (s : List ℕ) (t : Sheet) (h : read_of s ≡ record { answer = accepted; sheet = t }) where
  accepts : Accepts s
  accepts = accepts_of_answer s (ap (λ (r : Reading). r.answer) h)

  same_sheet : memory_sheet (sheet_in s accepts) ≡ t
  same_sheet = ap (λ (r : Reading). r.sheet) (sym accepts.reads ∙ h)

  pub accepted_of_read : Accepted t
  accepted_of_read = rw same_sheet at (accepted_sheet s accepts)

  pub bytes_of_read : ((k : ℕ) → get_or s k 0 < 256) → sheet_bytes (view_sheet t) ≡ s
  bytes_of_read below = ap (λ (x : Sheet). sheet_bytes (view_sheet x)) (sym same_sheet) ∙ sheet_bytes_lem s accepts below
