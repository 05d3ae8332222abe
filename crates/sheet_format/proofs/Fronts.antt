-- The front of a list of bytes that starts with a record: its length, its kind and its body, and that it is not cut short.
-- Assumes nothing.
use mathlib.Core.Path.{◌≡◌, refl, ◌∙◌}
use mathlib.Core.Bool.{false}
use mathlib.Core.List.{List, ◌++◌, append_assoc}
use Prim.Native.Nat.{ℕ, ◌+◌, ◌-◌, ◌<◌, ◌≤◌}
use native.Mathlib.Omega.{arith}
use lib.Dec.{ltb}
use lib.ListN.{length, get_or, take, drop, length-append, length-drop, take-append-drop}
use lib.Seq.{drop-drop, get_or-drop, length-take-le}
use borrow.Author.Tests.{ltb-false, le-ltb}
use Rattle.base_number.specs.Number.{short_of, short_bytes}
use Rattle.base_number.proofs.Bytes.{short_of_bytes, bytes_of_short}
use Rattle.base_lists.proofs.Tests.{neither, neither_of}
use Rattle.sheet_format.specs.Record.{HEADER, record_bytes, cut}
use Rattle.sheet_format.proofs.Sizes.{length_record_bytes}

module _ (kind : ℕ) (body rest : List ℕ) where
  pub body_after_header : drop HEADER (record_bytes kind body ++ rest) ≡ body ++ rest
  unfolding record_bytes short_bytes
  body_after_header = refl

  pub length_in_front : length body < 65536 → short_of (record_bytes kind body ++ rest) ≡ length body
  unfolding record_bytes short_bytes
  length_in_front h = short_of_bytes (length body) h ((short_bytes kind ++ body) ++ rest)

  pub kind_in_front : kind < 65536 → short_of (drop 2 (record_bytes kind body ++ rest)) ≡ kind
  unfolding record_bytes short_bytes
  kind_in_front h = short_of_bytes kind h (body ++ rest)

  pub record_not_cut : length body < 65536 → cut (record_bytes kind body ++ rest) ≡ false
  unfolding cut
  record_not_cut h =
      let s = record_bytes kind body ++ rest in
      let l : length s ≡ HEADER + length body + length rest = length-append (record_bytes kind body) rest ∙ rw length_record_bytes in
      let n = length_in_front h in
      neither_of (ltb (length s) HEADER) (ltb (length s - HEADER) (short_of s)) (le-ltb (length s) HEADER (omega arith))
      (le-ltb (length s - HEADER) (short_of s) (omega arith))

-- what a record that is not cut short leaves room for
pub record Room (s : List ℕ) : Type 0 where
  pub header : HEADER ≤ length s
  pub body : short_of s ≤ length (drop HEADER s)

pub room_of_cut : (s : List ℕ) → cut s ≡ false → Room s
unfolding cut
room_of_cut s h =
    let p = neither (ltb (length s) HEADER) (ltb (length s - HEADER) (short_of s)) h in
    record { header = ltb-false (length s) HEADER p.0; body = simp length-drop (ltb-false (length s - HEADER) (short_of s) p.1) }

-- from any place on the bytes are below 256 too
pub drop_below : (n : ℕ) (s : List ℕ) → ((k : ℕ) → get_or s k 0 < 256) → (k : ℕ) → get_or (drop n s) k 0 < 256
drop_below n s h k = rw (get_or-drop n s k 0) (h (n + k))

-- two parts of two, a third, and what is left
four_parts : (s : List ℕ) (n : ℕ) → (take 2 s ++ (take 2 (drop 2 s) ++ take n (drop HEADER s))) ++ drop n (drop HEADER s) ≡ s
four_parts s n =
    rw (
      append_assoc (take 2 s) (take 2 (drop 2 s) ++ take n (drop HEADER s)) (drop n (drop HEADER s)),
      append_assoc (take 2 (drop 2 s)) (take n (drop HEADER s)) (drop n (drop HEADER s)),
      take-append-drop n (drop HEADER s),
      ← drop-drop 2 2 s,
      take-append-drop 2 (drop 2 s),
      take-append-drop 2 s,
    )

-- the record of what stands in front, and what is left, are the list
pub front_back : (s : List ℕ) → Room s → ((k : ℕ) → get_or s k 0 < 256) →
    record_bytes (short_of (drop 2 s)) (take (short_of s) (drop HEADER s)) ++ drop (short_of s) (drop HEADER s) ≡ s
unfolding record_bytes
front_back s r h =
    rw (
      length-take-le (short_of s) (drop HEADER s) r.body,
      bytes_of_short s (omega arith) h,
      bytes_of_short (drop 2 s) (simp length-drop (omega arith)) (drop_below 2 s h),
    ) (four_parts s (short_of s))
