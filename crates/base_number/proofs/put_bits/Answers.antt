use Rattle.std.proofs.Common.{ℕ, ◌≡◌, ◌+◌, ◌-◌, [], ◌∷◌, ◌/◌, ◌%◌, length, ap, ◌∙◌, arith}
use lib.Seq.{sets}
use Rattle.base_lists.proofs.Sets.{put_part}
use Rattle.base_number.specs.Number.{bits_bytes}
use Rattle.base_number.proofs.put_bits.Goals as goal

pub returns : goal.returns
unfolding bits_bytes
returns c =
    let a = c.args in
    let part = c.copy_from_slice.new.self in
    let last : a.n / 16777216 % 256 ≡ a.n / 16777216 = omega (arith, c.ranges.n) in
    let e : part ≡ bits_bytes a.n =
    c.copy_from_slice.ensures.after ∙ c.to_le_bytes.ensures ∙ ap (λ (k : ℕ). a.n % 256 ∷ a.n / 256 % 256 ∷ a.n / 65536 % 256 ∷ k ∷ []) last in
    let n : length part ≡ 4 = ap length e in
    put_part a.at (a.at + 4 - a.at) a.s.now part (omega arith) (omega arith) ∙ ap (sets a.s.now a.at) e
