-- What the program keeps of a list of names, and what reading one answers.
use Rattle.std.specs.Prelude.{ℕ, suc, ◌+◌, ◌≤◌, ◌≡◌, cond, List, [], leb, length, drop, set, Result, IfOk}
use Rattle.base_bounds.specs.Bounds.{QUEUES}
use Rattle.base_lists.specs.Lists.{pad}
use Rattle.text_scan.specs.declared.Read.{Read}
use Rattle.text_scan.specs.declared.Lost.{Lost}
use Rattle.text_scan.specs.Reader.{Reader, got, bind, Turn, again, last}
use Rattle.text_scan.specs.Kept.{counted}
use Rattle.text_scan.specs.Reads.{Reads, after_blanks}
use Rattle.text_lists.specs.declared.KeptNames.{KeptNames}
use Rattle.text_lists.specs.declared.NameList.{NameList}
use Rattle.text_lists.specs.declared.Turn as kept
use Rattle.text_lists.specs.declared.Turn.TheVariants.{Again, Last}

-- the first names in their places, and how many there are; one past the places stands for any more
abbrev pub kept_of : List ℕ → KeptNames
kept_of qs = record { count = counted QUEUES (length qs); queues = pad QUEUES 0 qs }

-- no name yet, and one more
abbrev pub none : KeptNames
none = kept_of []

unfoldable pub noted : KeptNames → ℕ → KeptNames
noted n q =
    cond (leb QUEUES n.count) (record { count = suc QUEUES; queues = n.queues })
    (record { count = n.count + 1; queues = set n.queues n.count q })

-- one turn
abbrev pub turned : kept.Turn → Turn KeptNames KeptNames
turned (Again n) = again n
turned (Last n) = last n

abbrev pub names_in : NameList → KeptNames
names_in l = l.names

-- a list: what is kept of it, and where it begins
pub record ReadsList (s : List ℕ) (at : ℕ) (P : Reader (List ℕ)) (r : Result (Read NameList) Lost) : Type 0 where
  pub names : Reads names_in s at (λ (t : List ℕ). bind (P t) (λ (qs : List ℕ). got (kept_of qs))) r
  pub start : IfOk r (λ (x : Read NameList). (x.value.start ≤ length s) × (drop x.value.start s ≡ after_blanks (drop at s)))
