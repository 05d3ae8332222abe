-- Sheet A passes the check, is calm, and is a sheet that the program can hold; so it is written and read back as itself.
-- And which steps split and reorder take, by the masks of the step table.
-- Assumes nothing.
use mathlib.Core.Path.{◌≡◌, refl, ap, ◌∙◌, sym}
use mathlib.Core.Bool.{true, false, ◌&&◌}
use mathlib.Core.List.{List, [], ◌∷◌, map}
use Prim.Native.Nat.{ℕ, zero, suc, ◌<◌, ◌≤◌}
use native.Mathlib.Omega.{arith}
use lib.Dec.{lit<, lit≤}
use lib.ListN.{length, get_or, take, replicate, get_or-replicate}
use lib.IntN.{pos}
use mir.Syntax.{w32}
use mir.Val.{SFits}
use borrow.Author.Rules.{sfits_of}
use Rattle.base_number.specs.Number.{short_bytes, bits_bytes}
use Rattle.sheet_step.specs.Step.{step_names, step_variable, unused_z, field_place, step_places, no_step, blank, step_bytes}
use Rattle.sheet_step.specs.declared.Func.{Func}
use Rattle.sheet_step.specs.declared.Func.TheVariants.{Keep, Add, Copy, Count, Stamp}
use Rattle.sheet_step.specs.declared.Step.{Step}
use Rattle.sheet_operator.specs.Memory.{tidy_as, memory_number, vacant, no_operator, Held}
use Rattle.sheet_operator.proofs.Held.{held_no_operator}
use Rattle.sheet_judge.specs.Judge.{four, five, six, seven, judge_by, whole}
use Rattle.sheet_format.specs.Record.{record_bytes, op_bytes}
use Rattle.sheet_format.specs.Head.{head_good}
use Rattle.base_bounds.specs.Bounds.{OPERATORS}
use Rattle.sheet.specs.Answer.{accepted}
use Rattle.sheet.specs.Sheet.{view_sheet, op_at, missing, HeldSheet}
use Rattle.sheet.specs.Check.{check_from, ending, check_of}
use Rattle.codec_read.specs.Read.{read_of}
use Rattle.codec_write.specs.Write.{sheet_bytes, Writing, write_of}
use Rattle.codec_write.proofs.Writing.{write_of_room}
use Rattle.codec.proofs.Theorems.{read_of_written}
use Rattle.counts.specs.Calm.{is_calm}
use Rattle.rewrite_rules.specs.Rewrite.{touches_none, writes_some}
use Rattle.order.specs.Instance.{keep_two, less_five, sheet_a}
use Rattle.cases.specs.SheetA.{line_of}

pub sheet_a_accepted : check_of sheet_a ≡ accepted
unfolding step_names step_variable unused_z field_place step_places blank tidy_as memory_number vacant four five six seven judge_by whole head_good
    check_from ending check_of
sheet_a_accepted = refl

pub sheet_a_calm : is_calm (view_sheet sheet_a) ≡ true
unfolding step_names
sheet_a_calm = refl

-- of four places, one that is used and three that are not
first_of_four : {A : Type 0} (P : A → Type 0) (x d : A) → P x → P d → (k : ℕ) → P (get_or (x ∷ d ∷ d ∷ d ∷ []) k d)
first_of_four P x d p e zero = p
first_of_four P x d p e (suc zero) = e
first_of_four P x d p e (suc (suc zero)) = e
first_of_four P x d p e (suc (suc (suc zero))) = e
first_of_four P x d p e (suc (suc (suc (suc k)))) = e

-- a line of one step whose numbers fit their types
record StepHeld (s : Step) : Type 0 where
  variable : s.variable < 256
  p : s.p < 256
  r : s.r < 256
  low : SFits w32 s.low
  high : SFits w32 s.high

held_no_step : StepHeld no_step
held_no_step = record { variable = lit< tt; p = lit< tt; r = lit< tt; low = sfits_of (lit< tt); high = sfits_of (lit< tt) }

held_line : (p q : ℕ) (s : Step) → p < 256 → q < 256 → StepHeld s → Held (line_of p q s)
held_line p q s a b f =
    let step : (k : ℕ) → StepHeld (get_or (s ∷ no_step ∷ no_step ∷ no_step ∷ []) k no_step) = first_of_four StepHeld s no_step f held_no_step in
    record {
      ins_full = refl;
      outs_full = refl;
      steps_full = refl;
      count_byte = lit< tt;
      variable_byte = lit< tt;
      field_byte = lit< tt;
      ins_bytes = first_of_four (λ (x : ℕ). x < 256) p 0 a (lit< tt);
      outs_bytes = first_of_four (λ (x : ℕ). x < 256) q 0 b (lit< tt);
      step_variables = λ k. (step k).variable;
      step_ps = λ k. (step k).p;
      step_rs = λ k. (step k).r;
      step_lows = λ k. (step k).low;
      step_highs = λ k. (step k).high;
    }

held_at : (i : ℕ) → i < OPERATORS → Held (op_at sheet_a i)
held_at zero l =
    held_line 0 1 keep_two (lit< tt) (lit< tt)
    (record { variable = lit< tt; p = lit< tt; r = lit< tt; low = sfits_of (lit< tt); high = sfits_of (lit< tt) })
held_at (suc zero) l =
    held_line 1 2 less_five (lit< tt) (lit< tt)
    (record { variable = lit< tt; p = lit< tt; r = lit< tt; low = sfits_of (lit< tt); high = sfits_of (lit< tt) })
held_at (suc (suc i)) l = rw (get_or-replicate 14 i no_operator missing (omega arith)) held_no_operator

pub sheet_a_held : HeldSheet sheet_a
sheet_a_held = record { full = refl; each = held_at }

-- written into 50 bytes, sheet A takes the first 44, and is read back from there
abbrev pub lent : List ℕ
lent = replicate 50 170

pub sheet_a_size : length (sheet_bytes (view_sheet sheet_a)) ≡ 44
unfolding short_bytes bits_bytes step_bytes record_bytes op_bytes
sheet_a_size = refl

sheet_a_room : length (sheet_bytes (view_sheet sheet_a)) ≤ length lent
sheet_a_room = rw sheet_a_size (lit≤ tt)

sheet_a_length : (write_of sheet_a lent).size ≡ 44
sheet_a_length =
    ap (λ (w : Writing). w.size) (write_of_room sheet_a lent (sheet_bytes (view_sheet sheet_a)) sheet_a_accepted refl sheet_a_room) ∙ sheet_a_size

pub sheet_a_again : read_of (take 44 (write_of sheet_a lent).buffer) ≡ record { answer = accepted; sheet = sheet_a }
sheet_a_again =
    ap (λ (n : ℕ). read_of (take n (write_of sheet_a lent).buffer)) (sym sheet_a_length)
    ∙ read_of_written sheet_a lent sheet_a_held sheet_a_accepted sheet_a_room

-- what the masks of the step table come to: of Keep, Add, Copy, Count and Stamp split takes Add and Copy, reorder the first three
abbrev pub functions : List Func
functions = Keep ∷ Add ∷ Copy ∷ Count ∷ Stamp ∷ []

abbrev pub step_by : Func → Step
step_by f = record { func = f; variable = 0; p = 0; r = 0; low = pos 0; high = pos 0 }

pub split_takes : map (λ (f : Func). touches_none (step_by f) && writes_some (step_by f)) functions ≡ false ∷ true ∷ true ∷ false ∷ false ∷ []
split_takes = refl

pub reorder_takes : map (λ (f : Func). touches_none (step_by f)) functions ≡ true ∷ true ∷ true ∷ false ∷ false ∷ []
reorder_takes = refl
