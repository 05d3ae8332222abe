use Rattle.std.proofs.Common.{ℕ, ◌≡◌, ◌+◌, ◌-◌, [], ◌∷◌, ◌/◌, ◌%◌, length, ap, ◌∙◌, arith}
use lib.Seq.{sets}
use Rattle.base_lists.proofs.Sets.{put_part}
use Rattle.base_number.specs.Number.{short_bytes}
use Rattle.base_number.proofs.put_short.Goals as goal

pub returns : goal.returns
unfolding short_bytes
returns c =
    let a = c.args in
    let part = c.copy_from_slice.new.self in
    let last : a.n / 256 % 256 ≡ a.n / 256 = omega arith in
    let e : part ≡ short_bytes a.n =
    c.copy_from_slice.ensures.after ∙ c.to_le_bytes.ensures ∙ ap (λ (k : ℕ). a.n % 256 ∷ k ∷ []) last in
    let n : length part ≡ 2 = ap length e in
    put_part a.at (a.at + 2 - a.at) a.s.now part (omega arith) (omega arith) ∙ ap (sets a.s.now a.at) e
