-- Sheets for the cases on rewriting.
use Rattle.std.specs.Prelude.{List, [], ◌∷◌, ◌++◌, ℕ, pos}
use Rattle.sheet_step.specs.declared.Step.{Step}
use Rattle.sheet_operator.specs.Op.{Op, line, double, deal, gather}
use Rattle.sheet.specs.declared.Sheet.{Sheet}
use Rattle.order.specs.Samples.{sheet_of, keep_in, add_one}
use Rattle.order.specs.Instance.{keep_two, less_five}

-- sheet A fused, with its bytes; its Add line split two ways
abbrev pub fused_a : Sheet
fused_a = sheet_of 1 2 0 (line 0 1 (keep_two ∷ less_five ∷ []) ∷ [])

abbrev pub bytes_fused_a : List ℕ
bytes_fused_a =
    0x04 ∷ 0x00 ∷ 0x01 ∷ 0x00 ∷ 0x01 ∷ 0x02 ∷ 0x00 ∷ 0x01 ∷ 0x1a ∷ 0x00 ∷ 0x02 ∷ 0x00 ∷ 0x00 ∷ 0x01
    ∷ 0x01 ∷ 0xff ∷ 0x00 ∷ 0x00 ∷ 0x02 ∷ 0x00 ∷ 0x00 ∷ 0x00 ∷ 0x02 ∷ 0x00 ∷ 0x00 ∷ 0x00
    ∷ 0x02 ∷ 0xff ∷ 0x01 ∷ 0x00 ∷ 0xfb ∷ 0xff ∷ 0xff ∷ 0xff ∷ 0x00 ∷ 0x00 ∷ 0x00 ∷ 0x00 ∷ []

abbrev pub split_a : Sheet
split_a =
    sheet_of 1 7 2
    (line 0 1 (keep_two ∷ [])
    ∷ deal 0 1 (3 ∷ 4 ∷ [])
    ∷ line 3 5 (less_five ∷ [])
    ∷ line 4 6 (less_five ∷ [])
    ∷ gather 1 2 (5 ∷ 6 ∷ [])
    ∷ [])

-- sheet A with its Keep on field 1, which the Add line writes
abbrev pub keep_one : Step
keep_one = keep_in 1 (pos 2) (pos 2)

abbrev pub sheet_b : Sheet
sheet_b = sheet_of 1 3 0 (line 0 1 (keep_one ∷ []) ∷ line 1 2 (less_five ∷ []) ∷ [])

-- many queues: doubles, and then the line that is split
abbrev pub doubles : List Op
doubles = double 0 4 5 ∷ double 1 6 7 ∷ double 2 8 9 ∷ double 3 10 11 ∷ double 4 12 13 ∷ double 5 14 15 ∷ []

abbrev pub eighteen : Sheet
eighteen = sheet_of 4 18 0 (doubles ++ (line 6 16 (add_one ∷ []) ∷ line 7 17 (add_one ∷ []) ∷ []))

abbrev pub nineteen : Sheet
nineteen = sheet_of 4 19 0 (doubles ++ (line 6 16 (add_one ∷ []) ∷ line 7 17 (add_one ∷ []) ∷ line 8 18 (add_one ∷ []) ∷ []))

abbrev pub eighteen_split : Sheet
eighteen_split =
    sheet_of 4 24 2
    (doubles
    ++ (deal 0 6 (18 ∷ 19 ∷ 20 ∷ [])
    ∷ line 18 21 (add_one ∷ [])
    ∷ line 19 22 (add_one ∷ [])
    ∷ line 20 23 (add_one ∷ [])
    ∷ gather 1 16 (21 ∷ 22 ∷ 23 ∷ [])
    ∷ line 7 17 (add_one ∷ [])
    ∷ []))
