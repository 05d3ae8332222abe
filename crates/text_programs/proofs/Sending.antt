-- What was put at the front of the buffer is what is sent: a line of a refusal, a sheet's text and a newline, a sheet's bytes.
-- Assumes nothing.
use mathlib.Core.Path.{◌≡◌, refl, ap, ◌∙◌, sym, subst}
use mathlib.Core.List.{List, [], ◌∷◌}
use Prim.Native.Nat.{ℕ, suc, ◌+◌, ◌*◌, ◌<◌, ◌≤◌}
use native.Mathlib.Nat.{zero-add}
use native.Mathlib.Omega.{arith}
use lib.ListN.{length, set, length-append}
use Rattle.std.specs.Prelude.{Result, Ok, is_err}
use Rattle.std.specs.Result.{result_unwrap_or}
use Rattle.base_lists.specs.Lists.{chain}
use Rattle.base_lists.proofs.Sets.{sets_front}
use Rattle.base_words.specs.Text.{PutsText}
use Rattle.base_words.proofs.Putting.{puts_then, puts_byte}
use Rattle.base_bounds.specs.Bounds.{OPERATORS}
use Rattle.base_refusal.specs.declared.Refusal.{Refusal}
use Rattle.sheet_operator.specs.Op.{Op}
use Rattle.sheet_operator.proofs.ViewLaws.{Small}
use Rattle.sheet_format.specs.Head.{HEAD_BYTES, head_bytes}
use Rattle.sheet_format.specs.Record.{RECORD_MOST, kind_code, kind_in, body_bytes, op_bytes}
use Rattle.sheet_format.proofs.Heads.{length_head_bytes}
use Rattle.sheet_format.proofs.Sizes.{length_record_bytes, length_body_bytes}
use Rattle.sheet.specs.declared.Sheet.{Sheet}
use Rattle.sheet.specs.Answer.{accepted}
use Rattle.sheet.specs.Sheet.{view_sheet}
use Rattle.sheet.specs.Check.{check_of}
use Rattle.sheet.proofs.Accepted.{accepted_facts, ranges_of_accepted}
use Rattle.sheet.proofs.Placed.{nth, ops_many}
use Rattle.codec_read.proofs.InMemory.{follow_view}
use Rattle.codec_write.specs.Write.{sheet_bytes, Writing, Writes}
use Rattle.codec_write.proofs.Writing.{write_of_room}
use Rattle.text_parts.specs.Put.{PutsUpTo}
use Rattle.text_print.specs.Names.{SHEET_TEXT}
use Rattle.text_form.specs.Form.{sheet_text}
use Rattle.text_programs.specs.Output.{Output, out, text_line}
use Rattle.text_programs.specs.Sends.{OUTPUT, sent, Sends}

-- the same output
pub sends_as : {o o' : Output} {before after : List ℕ} {r : Result ℕ ℕ} → o ≡ o' → Sends o' before after r → Sends o before after r
sends_as {before = before} {after = after} {r = r} e h = subst (λ (x : Output). Sends x before after r) (sym e) h

pub sends_puts : (o : Output) {before after : List ℕ} (r : Result ℕ ℕ) → is_err r ≡ o.failed → PutsText o.bytes before 0 after (sent r) →
    sent r ≤ OUTPUT → OUTPUT ≤ length before → Sends o before after r
sends_puts o {before = before} r failed p h room =
    let e = p.past ∙ zero-add (length o.bytes) in
    record { failed = failed; size = e; buffer = p.text ∙ sets_front o.bytes before (omega arith); fits = h }

pub sends_text : (t : Sheet) {before mid : List ℕ} {n : ℕ} → PutsUpTo SHEET_TEXT (sheet_text (view_sheet t)) before 0 mid n → OUTPUT ≤ length before →
    Sends (out (text_line (view_sheet t))) before (set mid n 10) (Ok (n + 1))
sends_text t {mid = mid} {n = n} p room =
    sends_puts (out (text_line (view_sheet t))) (Ok (n + 1)) refl (puts_then p.puts (puts_byte mid n 10)) (omega (arith, p.most)) room

-- ---- no sheet has more bytes than its head and sixteen of the longest records

record_most : (o : Op) → Small o → length (op_bytes o) ≤ RECORD_MOST
unfolding op_bytes
record_most o h = omega (arith, length_record_bytes (kind_code (kind_in o)) (body_bytes o), length_body_bytes o h)

records_most : (os : List Op) → ((k : ℕ) → k < length os → Small (nth os k)) → length (chain op_bytes os) ≤ RECORD_MOST * length os
records_most [] h = omega arith
records_most (o ∷ os) h =
    omega (
      arith,
      length-append (op_bytes o) (chain op_bytes os),
      record_most o (h 0 (omega arith)),
      records_most os (λ k l. h (suc k) (omega arith)),
    )

module _ (t : Sheet) (good : check_of t ≡ accepted) where
  bytes_most : length (sheet_bytes (view_sheet t)) ≤ HEAD_BYTES + RECORD_MOST * OPERATORS
  bytes_most =
      let a = view_sheet t in
      omega (
        arith,
        length-append (head_bytes a.inputs a.queues a.variables (length a.ops)) (chain op_bytes a.ops),
        length_head_bytes a.inputs a.queues a.variables (length a.ops),
        records_most a.ops (follow_view t (accepted_facts t good)).small,
        ops_many t,
        (ranges_of_accepted t good).count,
      )

  pub sends_bytes : {before after : List ℕ} {r : Result ℕ Refusal} {n : ℕ} → Writes t before after r → n ≡ result_unwrap_or r 0 → OUTPUT ≤ length before →
      Sends (out (sheet_bytes (view_sheet t))) before after (Ok n)
  sends_bytes {before = before} h size room =
      let bytes = sheet_bytes (view_sheet t) in
      let e = write_of_room t before bytes good refl (omega (arith, bytes_most)) in
      let n = size ∙ h.size ∙ ap (λ (x : Writing). x.size) e in
      record { failed = refl; size = n; buffer = h.buffer ∙ ap (λ (x : Writing). x.buffer) e; fits = omega (arith, bytes_most) }
