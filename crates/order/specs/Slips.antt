-- Document 01's four slips and a sheet that is not calm, each as a row: two runs from the same items, and what each of them ends with.
use Rattle.std.specs.Prelude.{ℕ, suc, ◌≡◌, Bool, true, false, not, ◌&&◌, List, [], ◌∷◌, ◌++◌, map, eqb, replicate, ℤ, pos, negsuc}
use Rattle.sheet_operator.specs.Op.{line, latest, deal, gather}
use Rattle.sheet.specs.declared.Sheet.{Sheet}
use Rattle.sheet.specs.Answer.{accepted, is_accepted}
use Rattle.run_store.specs.declared.Item.{Item}
use Rattle.base_bounds.specs.Bounds.{ROOM}
use Rattle.run_machine.specs.Machine.{Machine}
use Rattle.run_machine.specs.Numbers.{state_of, store_in}
use Rattle.run_machine.specs.Calls.{Call, ReadyCall, run_of, ready_of}
use Rattle.order.specs.Order.{Feed, outputs}
use Rattle.order.specs.Demand.{filled, variables_of}
use Rattle.order.specs.Samples.{sheet_of, item, of, holding, add_one, copy_to, count_to, stamp_to}
use Rattle.order.specs.Instance.{side, keep_two, less_five, sheet_a, items_a}

-- what a run ends with: the ready set, the items of the outputs, and the variables that both sheets have
pub record End : Type 0 where
  pub set : ℕ
  pub items : List (List Item)
  pub variables : List ℤ

-- the items that the queues hold, from the first on, and two sheets that are fired from there
pub record Slip : Type 0 where
  pub before : List (List Item)
  pub first : Sheet
  pub firings : List ℕ
  pub end : End
  pub second : Sheet
  pub others : List ℕ
  pub other_end : End

-- ---- the test

abbrev pub same_z : ℤ → ℤ → Bool
same_z (pos m) (pos n) = eqb m n
same_z (pos m) (negsuc n) = false
same_z (negsuc m) (pos n) = false
same_z (negsuc m) (negsuc n) = eqb m n

abbrev pub same_list : {A : Type 0} → (A → A → Bool) → List A → List A → Bool
same_list f [] [] = true
same_list f [] (y ∷ ys) = false
same_list f (x ∷ xs) [] = false
same_list f (x ∷ xs) (y ∷ ys) = f x y && same_list f xs ys

abbrev pub same_left : End → End → Bool
same_left x y =
    same_list (same_list (λ (a b : Item). same_list same_z a.f b.f)) x.items y.items && same_list same_z x.variables y.variables

-- a call has left what is told: s is the sheet whose variables are looked at
abbrev pub ends_with : Sheet → Sheet → Call → ReadyCall → End → Bool
ends_with s t c r e =
    is_accepted r.answer
    && (eqb r.set e.set && same_left (record { set = 0; items = outputs t c; variables = variables_of s c }) e)

abbrev pub called_ends : Sheet → Sheet → Call → End → Bool
called_ends s t c e = ends_with s t c (ready_of t c.state c.store) e

abbrev pub ends : Sheet → Sheet → Machine → List ℕ → End → Bool
ends s t m l e = called_ends s t (run_of t (state_of m) (store_in m) l).call e

-- both sheets end as told, and what they leave is not the same
abbrev pub shows : Slip → Bool
shows x =
    ends x.first x.first (holding x.before []) x.firings x.end
    && (ends x.first x.second (holding x.before []) x.others x.other_end && not (same_left x.end x.other_end))

-- ---- the sheets, and what a wrong rewriting would make of them

abbrev pub rests : List (List Item) → List ℤ → End
rests xs vs = record { set = 0; items = xs; variables = vs }

-- sheet A with its Keep line split two ways
abbrev pub keep_split : Sheet
keep_split =
    sheet_of 1 7 2
    (deal 0 0 (3 ∷ 4 ∷ [])
    ∷ line 3 5 (keep_two ∷ [])
    ∷ line 4 6 (keep_two ∷ [])
    ∷ gather 1 1 (5 ∷ 6 ∷ [])
    ∷ line 1 2 (less_five ∷ [])
    ∷ [])

-- fired with A's items until nothing is ready
abbrev pub waiting : List ℕ
waiting = 0 ∷ 0 ∷ 0 ∷ 3 ∷ 4 ∷ 3 ∷ 5 ∷ 6 ∷ 5 ∷ 1 ∷ 1 ∷ []

abbrev pub stuck : Call
stuck = (run_of keep_split (state_of (holding (items_a ∷ []) [])) (store_in (holding (items_a ∷ []) [])) waiting).call

-- a line that counts, and split two ways
abbrev pub counting : Sheet
counting = sheet_of 1 2 1 (line 0 1 (count_to 0 3 ∷ []) ∷ [])

abbrev pub count_split : Sheet
count_split =
    sheet_of 1 6 3
    (deal 1 0 (2 ∷ 3 ∷ [])
    ∷ line 2 4 (count_to 0 3 ∷ [])
    ∷ line 3 5 (count_to 0 3 ∷ [])
    ∷ gather 2 1 (4 ∷ 5 ∷ [])
    ∷ [])

-- Copy 0 to 1 and then Add to 0: the Add reads and writes no field that the Copy writes, but the Copy reads what the Add writes
abbrev pub copying : Sheet
copying = sheet_of 1 3 0 (line 0 1 (copy_to 0 1 ∷ []) ∷ line 1 2 (add_one ∷ []) ∷ [])

abbrev pub copying_reordered : Sheet
copying_reordered = sheet_of 1 3 0 (line 0 1 (add_one ∷ []) ∷ line 1 2 (copy_to 0 1 ∷ []) ∷ [])

-- a line that counts every item and keeps those with 2 in field 0
abbrev pub dropping : Sheet
dropping = sheet_of 1 2 1 (line 0 1 (count_to 0 3 ∷ keep_two ∷ []) ∷ [])

-- Latest and Stamp on one variable
abbrev pub restless : Sheet
restless = sheet_of 2 3 1 (latest 0 0 1 ∷ line 1 2 (stamp_to 0 3 ∷ []) ∷ [])

-- ---- the table

-- a Keep is split: the gather waits for the item that was dropped, and one that passed waits behind it for good
abbrev pub keep_row : Slip
keep_row =
    record {
      before = items_a ∷ [];
      first = sheet_a;
      firings = 0 ∷ 0 ∷ 1 ∷ 0 ∷ 1 ∷ [];
      end = rests ((item (pos 2 ∷ pos 45 ∷ []) ∷ item (pos 2 ∷ negsuc 7 ∷ pos 7 ∷ []) ∷ []) ∷ []) [];
      second = keep_split;
      others = waiting;
      other_end = rests ((item (pos 2 ∷ pos 45 ∷ []) ∷ []) ∷ []) [];
    }

-- a Count is split: the copies share a variable, and the second item may be counted first
abbrev pub count_row : Slip
count_row =
    record {
      before = (of (pos 8) ∷ of (pos 9) ∷ []) ∷ [];
      first = counting;
      firings = 0 ∷ 0 ∷ [];
      end = rests ((item (pos 8 ∷ pos 0 ∷ pos 0 ∷ pos 1 ∷ []) ∷ item (pos 9 ∷ pos 0 ∷ pos 0 ∷ pos 2 ∷ []) ∷ []) ∷ []) (pos 2 ∷ []);
      second = count_split;
      others = 0 ∷ 0 ∷ 3 ∷ 2 ∷ 4 ∷ 5 ∷ [];
      other_end = rests ((item (pos 8 ∷ pos 0 ∷ pos 0 ∷ pos 2 ∷ []) ∷ item (pos 9 ∷ pos 0 ∷ pos 0 ∷ pos 1 ∷ []) ∷ []) ∷ []) (pos 2 ∷ []);
    }

-- fields are tested one way only: reordered, the Copy takes the field after the Add
abbrev pub copy_row : Slip
copy_row =
    record {
      before = (of (pos 7) ∷ []) ∷ [];
      first = copying;
      firings = 0 ∷ 1 ∷ [];
      end = rests ((item (pos 8 ∷ pos 7 ∷ []) ∷ []) ∷ []) [];
      second = copying_reordered;
      others = 0 ∷ 1 ∷ [];
      other_end = rests ((item (pos 8 ∷ pos 8 ∷ []) ∷ []) ∷ []) [];
    }

-- the output is full, but the line drops the next item: queue 0 is ready, and firing it moves the variable on;
-- no feeds with room for all lead here, so the row starts from a state that was good already
abbrev pub full_row : Slip
full_row =
    record {
      before = (of (pos 3) ∷ []) ∷ replicate ROOM (of (pos 2)) ∷ [];
      first = dropping;
      firings = [];
      end = record { set = 1; items = replicate ROOM (of (pos 2)) ∷ []; variables = pos 0 ∷ [] };
      second = dropping;
      others = 0 ∷ [];
      other_end = rests (replicate ROOM (of (pos 2)) ∷ []) (pos 1 ∷ []);
    }

-- a sheet that is not calm: the stamp is the variable before or after Latest
abbrev pub restless_row : Slip
restless_row =
    record {
      before = (item (pos 0 ∷ pos 5 ∷ []) ∷ []) ∷ (of (pos 1) ∷ []) ∷ [];
      first = restless;
      firings = 0 ∷ 1 ∷ [];
      end = rests ((item (pos 1 ∷ pos 0 ∷ pos 0 ∷ pos 5 ∷ []) ∷ []) ∷ []) (pos 5 ∷ []);
      second = restless;
      others = 1 ∷ 0 ∷ [];
      other_end = rests ((of (pos 1) ∷ []) ∷ []) (pos 5 ∷ []);
    }

abbrev pub slips : List Slip
slips = keep_row ∷ count_row ∷ copy_row ∷ full_row ∷ restless_row ∷ []

-- ---- where a row starts

abbrev pub feeds_in : ℕ → List (List Item) → List Feed
feeds_in q [] = []
feeds_in q (xs ∷ rest) = map (λ (x : Item). record { queue = q; item = x }) xs ++ feeds_in (suc q) rest

abbrev pub filled_by : Sheet → Slip → Call
filled_by t x = filled (side t (feeds_in 0 x.before) [])

-- on both sheets a fresh start and accepted feeds leave what the queues hold
abbrev pub FedStart : Slip → Type 0
FedStart x =
    (filled_by x.first x ≡ record { answer = accepted; state = state_of (holding x.before []); store = store_in (holding x.before []) })
    × (filled_by x.second x ≡ record { answer = accepted; state = state_of (holding x.before []); store = store_in (holding x.before []) })
