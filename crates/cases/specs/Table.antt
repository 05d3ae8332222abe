-- The table of cases.
use Rattle.std.specs.Prelude.{true, false, List, [], ◌∷◌, ◌++◌, take, replicate, pos, negsuc}
use Rattle.base_lists.specs.Lists.{pad}
use Rattle.sheet_operator.specs.Memory.{no_operator}
use Rattle.sheet.specs.Answer.{accepted, refused_at, refused}
use Rattle.sheet.specs.Sheet.{no_sheet}
use Rattle.base_bounds.specs.Bounds.{QUEUES, ROOM}
use Rattle.run_store.specs.declared.Item.{Item}
use Rattle.run_machine.specs.Machine.{Machine}
use Rattle.base_words.specs.Text.{word}
use Rattle.order.specs.Samples.{item, of, holding, add_one}
use Rattle.order.specs.Instance.{sheet_a, items_a, reordered_a}
use Rattle.order.specs.Slips.{restless}
use Rattle.cases.specs.Case.{Case, reads, checks, writes, calms, counts, feeds, takes, fires, runs, fuses, splits, reorders, prints, readies}
use Rattle.cases.specs.Firings.{LEAST, MOST, keep, count_first, line_of_steps, deal_three, gather_two, many}
use Rattle.cases.specs.Rewritings.{fused_a, bytes_fused_a, split_a, sheet_b, eighteen, nineteen, eighteen_split}
use Rattle.cases.specs.Damaged.{places, line_with, no_steps, five_steps, one_way, five_ways, step_left, empty_with}
use Rattle.cases.specs.SheetA.{bytes_a, feed_bytes_a, feed_bytes_ends, firing, bench_a, head_of, places_a}

-- sheet A's worked example: what is fed, the two items that come out, and the machine then
abbrev pub fed_a : Machine
fed_a = holding (items_a ∷ []) []

abbrev pub first : Item
first = item (pos 2 ∷ pos 45 ∷ [])

abbrev pub second : Item
second = item (pos 2 ∷ negsuc 7 ∷ pos 7 ∷ [])

abbrev pub worked : Machine
worked = holding ([] ∷ [] ∷ (first ∷ second ∷ []) ∷ []) []

abbrev pub table : List Case
table =
    -- A's bytes hold the sheet A that the instance of demand 3 speaks of, and it lies in memory like this
    reads bytes_a accepted sheet_a
    ∷ reads bytes_a accepted places_a
    -- bench: the worked example, whole
    ∷ prints bench_a (word "fired 5 skipped 0 rest yes\nq 2 2 45 0 0\nq 2 2 -8 7 0\n")
    -- no bytes; sheet A without its last byte; a firing and then a feed
    ∷ prints [] (word "refused 1 at record 0\n")
    ∷ prints (take 43 bytes_a) (word "refused 1 at record 2\n")
    ∷ prints (bytes_a ++ (firing 0 ++ feed_bytes_a)) (word "refused 2 at record 4\n")
    -- a queue that is never defined, ahead of a record cut short; that record alone
    ∷ prints (head_of 1 2 0 ++ (0 ∷ [])) (word "refused 5 at record 1\n")
    ∷ prints (head_of 1 1 0 ++ (0 ∷ [])) (word "refused 1 at record 1\n")
    -- an unread input is an output, and each variable has a line
    ∷ prints (head_of 1 1 2 ++ (take 21 feed_bytes_a ++ firing 0)) (word "fired 0 skipped 1 rest yes\nq 0 2 50 0 0\nv 0 0\nv 1 0\n")
    -- the ends of the range are printed whole
    ∷ prints (head_of 1 1 0 ++ feed_bytes_ends) (word "fired 0 skipped 0 rest yes\nq 0 -2147483648 2147483647 0 0\n")
    -- sheet A is checked and written back; a byte past its 44 stays as it was
    ∷ checks sheet_a accepted
    ∷ writes sheet_a (replicate 44 170) accepted 44 bytes_a
    ∷ writes sheet_a (replicate 46 170) accepted 44 (bytes_a ++ (170 ∷ 170 ∷ []))
    ∷ writes sheet_a (replicate 43 170) (refused_at 18 0) 0 (replicate 43 170)
    -- without its last byte: 1 at record 2; and one byte more: 1 at record 3
    ∷ reads (take 43 bytes_a) (refused_at 1 2) no_sheet
    ∷ reads (bytes_a ++ (0 ∷ [])) (refused_at 1 3) no_sheet
    -- Latest and Stamp on one variable, in two operators: not calm; sheet A is
    ∷ calms restless accepted false
    ∷ calms sheet_a accepted true
    -- sheet A fed 64; one more; a number on a queue that is no input
    ∷ counts sheet_a (pad QUEUES 0 (ROOM ∷ [])) accepted (pad QUEUES 0 (ROOM ∷ ROOM ∷ ROOM ∷ []))
    ∷ counts sheet_a (pad QUEUES 0 (65 ∷ [])) (refused 8) (replicate QUEUES 0)
    ∷ counts sheet_a (pad QUEUES 0 (0 ∷ 1 ∷ [])) (refused 8) (replicate QUEUES 0)
    -- no bytes; 255 in every place; a body length of 65,535; a head with 16 operators and no records
    ∷ reads [] (refused_at 1 0) no_sheet
    ∷ reads (replicate 60 255) (refused_at 1 0) no_sheet
    ∷ reads (255 ∷ 255 ∷ 1 ∷ 0 ∷ replicate 40 0) (refused_at 1 0) no_sheet
    ∷ reads (4 ∷ 0 ∷ 1 ∷ 0 ∷ 1 ∷ 3 ∷ 0 ∷ 16 ∷ []) (refused_at 1 1) no_sheet
    -- sheet A fed as in its worked example, fired 0, 0, 1, 0, 1; then at rest
    ∷ runs sheet_a fed_a (0 ∷ 0 ∷ 1 ∷ 0 ∷ 1 ∷ []) accepted 5 0 worked
    ∷ readies sheet_a worked accepted 0 0 32
    -- several ready: queues 3 and 4 of the split A, and not the gather's queue 6, which waits for queue 5
    ∷ readies split_a (holding ([] ∷ [] ∷ [] ∷ items_a ∷ items_a ∷ [] ∷ items_a ∷ []) []) accepted 24 2 3
    -- no items: at rest at once; a sheet that is refused
    ∷ readies sheet_a (holding [] []) accepted 0 0 32
    ∷ readies no_sheet (holding [] []) (refused_at 3 0) 0 0 32
    -- a take from the output
    ∷ takes sheet_a worked 2 accepted first (holding ([] ∷ [] ∷ (second ∷ []) ∷ []) [])
    -- Add 1 to the largest number wraps to the smallest
    ∷ fires (line_of_steps (add_one ∷ [])) (holding ((of MOST ∷ []) ∷ []) []) 0 accepted (holding ([] ∷ (of LEAST ∷ []) ∷ []) [])
    -- Keep at the ends of the range, and with low above high
    ∷ fires (line_of_steps (keep LEAST LEAST ∷ [])) (holding ((of LEAST ∷ []) ∷ []) []) 0 accepted (holding ([] ∷ (of LEAST ∷ []) ∷ []) [])
    ∷ fires (line_of_steps (keep MOST MOST ∷ [])) (holding ((of MOST ∷ []) ∷ []) []) 0 accepted (holding ([] ∷ (of MOST ∷ []) ∷ []) [])
    ∷ fires (line_of_steps (keep LEAST (negsuc 0) ∷ [])) (holding ((of MOST ∷ []) ∷ []) []) 0 accepted (holding ([] ∷ [] ∷ []) [])
    ∷ fires (line_of_steps (keep (pos 8) (pos 6) ∷ [])) (holding ((of (pos 7) ∷ []) ∷ []) []) 0 accepted (holding ([] ∷ [] ∷ []) [])
    -- a three-way deal of four items: outputs 0, 1, 2, 0; cursor 1
    ∷ runs deal_three (holding ((of (pos 1) ∷ of (pos 2) ∷ of (pos 3) ∷ of (pos 4) ∷ []) ∷ []) []) (0 ∷ 0 ∷ 0 ∷ 0 ∷ []) accepted 4 0
    (holding ([] ∷ (of (pos 1) ∷ of (pos 4) ∷ []) ∷ (of (pos 2) ∷ []) ∷ (of (pos 3) ∷ []) ∷ []) (pos 1 ∷ []))
    -- a gather at cursor 0, its second queue fired: 11 with an item, 10 empty
    ∷ fires gather_two (holding ([] ∷ (of (pos 1) ∷ []) ∷ []) []) 1 (refused 11) (holding ([] ∷ (of (pos 1) ∷ []) ∷ []) [])
    ∷ fires gather_two (holding [] []) 1 (refused 10) (holding [] [])
    -- the 64th feed is taken, the 65th is 12
    ∷ feeds (line_of_steps (add_one ∷ [])) (holding (many 63 ∷ []) []) 0 (of (pos 7)) accepted (holding (many ROOM ∷ []) [])
    ∷ feeds (line_of_steps (add_one ∷ [])) (holding (many ROOM ∷ []) []) 0 (of (pos 7)) (refused 12) (holding (many ROOM ∷ []) [])
    -- firing into a full queue is 12, but a dropped item fires
    ∷ fires (line_of_steps (add_one ∷ [])) (holding ((of (pos 1) ∷ []) ∷ many ROOM ∷ []) []) 0 (refused 12)
    (holding ((of (pos 1) ∷ []) ∷ many ROOM ∷ []) [])
    ∷ fires (line_of_steps (keep (pos 2) (pos 2) ∷ [])) (holding ((of (pos 1) ∷ []) ∷ many ROOM ∷ []) []) 0 accepted
    (holding ([] ∷ many ROOM ∷ []) [])
    -- a Count whose item is then dropped has counted; one that finds no room has not
    ∷ fires (line_of_steps (count_first ∷ keep (pos 2) (pos 2) ∷ [])) (holding ((of (pos 1) ∷ []) ∷ []) []) 0 accepted
    (holding ([] ∷ []) (pos 1 ∷ []))
    ∷ fires (line_of_steps (count_first ∷ [])) (holding ((of (pos 1) ∷ []) ∷ many ROOM ∷ []) []) 0 (refused 12)
    (holding ((of (pos 1) ∷ []) ∷ many ROOM ∷ []) [])
    -- a queue that no operator reads, and one that is no queue, are 9
    ∷ fires sheet_a (holding [] []) 2 (refused 9) (holding [] [])
    ∷ fires sheet_a (holding [] []) 255 (refused 9) (holding [] [])
    -- fuse 0 of A: 38 bytes, and three firings of 0 leave the same two items in queue 1
    ∷ fuses sheet_a 0 accepted fused_a
    ∷ writes fused_a (replicate 38 170) accepted 38 bytes_fused_a
    ∷ runs fused_a fed_a (0 ∷ 0 ∷ 0 ∷ []) accepted 3 0 (holding ([] ∷ (first ∷ second ∷ []) ∷ []) [])
    -- reorder 0 of A; with Keep on field 1 it is 17
    ∷ reorders sheet_a 0 accepted reordered_a
    ∷ reorders sheet_b 0 (refused 17) no_sheet
    -- split 1 of A two ways; split 0 is 17; three ways with 18 queues, and with 19
    ∷ splits sheet_a 1 2 accepted split_a
    ∷ splits sheet_a 0 2 (refused 17) no_sheet
    ∷ splits eighteen 6 3 accepted eighteen_split
    ∷ splits nineteen 6 3 (refused 16) no_sheet
    -- a sheet that is not calm; an operator that is not there; a line whose out no line reads
    ∷ fuses restless 0 (refused 13) no_sheet
    ∷ fuses sheet_a 2 (refused 14) no_sheet
    ∷ splits sheet_a 1 5 (refused 14) no_sheet
    ∷ fuses sheet_a 1 (refused 15) no_sheet
    -- in memory: a line as it has to be
    ∷ checks (line_of_steps (add_one ∷ [])) accepted
    -- a bad step count, 0 and 5; a bad way count, 1 and 5
    ∷ checks (places 1 (no_steps ∷ [])) (refused_at 1 1)
    ∷ checks (places 1 (five_steps ∷ [])) (refused_at 1 1)
    ∷ checks (places 1 (one_way ∷ [])) (refused_at 1 1)
    ∷ checks (places 1 (five_ways ∷ [])) (refused_at 1 1)
    -- a line with something in a place that it does not use: an in, an out, a step past the count, the variable, the field
    ∷ checks (places 1 (line_with 1 0 0 (1 ∷ []) [] [] ∷ [])) (refused_at 1 1)
    ∷ checks (places 1 (line_with 1 0 0 [] (1 ∷ []) [] ∷ [])) (refused_at 1 1)
    ∷ checks (places 1 (line_with 1 0 0 [] [] (step_left ∷ []) ∷ [])) (refused_at 1 1)
    ∷ checks (places 1 (line_with 1 1 0 [] [] [] ∷ [])) (refused_at 1 1)
    ∷ checks (places 1 (line_with 1 0 1 [] [] [] ∷ [])) (refused_at 1 1)
    -- an empty operator below N, with nothing and with something in it: 2; something past N: 1 at record N+1, ahead of 5
    ∷ checks (places 1 (no_operator ∷ [])) (refused_at 2 1)
    ∷ checks (places 1 (empty_with ∷ [])) (refused_at 2 1)
    ∷ checks (places 1 (line_with 1 0 0 [] [] [] ∷ empty_with ∷ [])) (refused_at 1 2)
    ∷ checks (places 1 (line_with 1 0 0 [] [] [] ∷ [])) (refused_at 5 2)
    ∷ []
