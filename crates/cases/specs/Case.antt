-- A case: a call's input and its whole answer; and when it is right.
use Rattle.std.specs.Prelude.{◌≡◌, Bool, List, [], ◌∷◌, ℕ}
use Rattle.sheet.specs.declared.Sheet.{Sheet}
use Rattle.sheet.specs.Answer.{Paper}
use Rattle.sheet.specs.Sheet.{view_sheet}
use Rattle.sheet.specs.Check.{check_of}
use Rattle.codec_read.specs.Read.{read_of}
use Rattle.codec_write.specs.Write.{write_of}
use Rattle.counts.specs.Calm.{is_calm}
use Rattle.counts.specs.Answers.{worst_of}
use Rattle.run_store.specs.declared.Item.{Item}
use Rattle.run_machine.specs.Machine.{Machine}
use Rattle.run_machine.specs.Numbers.{state_of, store_in}
use Rattle.rewriter.specs.Calls.{fuse_of, split_of, reorder_of}
use Rattle.bench_report.specs.Print.{text_of}
use Rattle.text_form.specs.Form.{sheet_text}
use Rattle.text_form.specs.Reading.{TextPaper, read_text_of}
use Rattle.run_machine.specs.Calls.{Call, feed_of, take_of, fire_of, run_of, ready_of}

pub data Case : Type 0 where
  reads : (bytes : List ℕ) (answer : Paper) (sheet : Sheet) → Case
  checks : (sheet : Sheet) (answer : Paper) → Case
  writes : (sheet : Sheet) (buffer : List ℕ) (answer : Paper) (size : ℕ) (after : List ℕ) → Case
  calms : (sheet : Sheet) (answer : Paper) (calm : Bool) → Case
  counts : (sheet : Sheet) (fed : List ℕ) (answer : Paper) (worst : List ℕ) → Case
  feeds : (sheet : Sheet) (before : Machine) (queue : ℕ) (item : Item) (answer : Paper) (after : Machine) → Case
  takes : (sheet : Sheet) (before : Machine) (queue : ℕ) (answer : Paper) (item : Item) (after : Machine) → Case
  fires : (sheet : Sheet) (before : Machine) (queue : ℕ) (answer : Paper) (after : Machine) → Case
  runs : (sheet : Sheet) (before : Machine) (list : List ℕ) (answer : Paper) (fired skipped : ℕ) (after : Machine) → Case
  fuses : (sheet : Sheet) (operator : ℕ) (answer : Paper) (after : Sheet) → Case
  splits : (sheet : Sheet) (operator ways : ℕ) (answer : Paper) (after : Sheet) → Case
  reorders : (sheet : Sheet) (operator : ℕ) (answer : Paper) (after : Sheet) → Case
  prints : (input text : List ℕ) → Case
  readies : (sheet : Sheet) (before : Machine) (answer : Paper) (set count lowest : ℕ) → Case
  reads_text : (bytes : List ℕ) (answer : TextPaper) (sheet : Sheet) → Case
  prints_text : (sheet : Sheet) (text : List ℕ) → Case

-- a call's answer and the numbers that it leaves
abbrev pub leaving : Paper → Machine → Call
leaving p m = record { answer = p; state = state_of m; store = store_in m }

abbrev pub Right : Case → Type 0
Right (reads s p t) = read_of s ≡ record { answer = p; sheet = t }
Right (checks t p) = check_of t ≡ p
Right (writes t l p n after) = write_of t l ≡ record { answer = p; size = n; buffer = after }
Right (calms t p b) = (check_of t ≡ p) × (is_calm (view_sheet t) ≡ b)
Right (counts t fed p w) = worst_of t fed ≡ record { answer = p; counts = w }
Right (feeds t m q x p m') = feed_of t (state_of m) (store_in m) q x ≡ leaving p m'
Right (takes t m q p x m') = take_of t (state_of m) (store_in m) q ≡ record { call = leaving p m'; item = x }
Right (fires t m q p m') = fire_of t (state_of m) (store_in m) q ≡ leaving p m'
Right (runs t m l p fired skipped m') = run_of t (state_of m) (store_in m) l ≡ record { call = leaving p m'; fired = fired; skipped = skipped }
Right (fuses t i p u) = fuse_of t i ≡ record { answer = p; sheet = u }
Right (splits t i k p u) = split_of t i k ≡ record { answer = p; sheet = u }
Right (reorders t i p u) = reorder_of t i ≡ record { answer = p; sheet = u }
Right (prints s text) = text_of s ≡ text
Right (readies t m p set n low) = ready_of t (state_of m) (store_in m) ≡ record { answer = p; set = set; count = n; lowest = low }
Right (reads_text s p t) = read_text_of s ≡ record { answer = p; sheet = t }
Right (prints_text t s) = sheet_text (view_sheet t) ≡ s

-- every row of a table
abbrev pub Rights : List Case → Type 0
Rights [] = Unit {0}
Rights (c ∷ cs) = Right c × Rights cs
