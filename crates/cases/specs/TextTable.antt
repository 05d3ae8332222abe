-- The table of texts: what is printed of a sheet, and what is read of a text.
use Rattle.std.specs.Prelude.{ℕ, List, [], ◌∷◌, ◌++◌, length, take, replicate}
use Rattle.std.proofs.Math.Option.{some, none}
use Rattle.base_lists.specs.Lists.{chain}
use Rattle.base_words.specs.Text.{word}
use Rattle.sheet_operator.specs.Op.{line, latest, double, deal, gather}
use Rattle.sheet.specs.declared.Sheet.{Sheet}
use Rattle.sheet.specs.Sheet.{no_sheet}
use Rattle.text_form.specs.Reading.{at_record, outside}
use Rattle.order.specs.Samples.{sheet_of, copy_to, count_to, stamp_to}
use Rattle.order.specs.Instance.{sheet_a, less_five}
use Rattle.cases.specs.Case.{Case, reads_text, prints_text}
use Rattle.cases.specs.Firings.{LEAST, MOST, only, keep, line_of_steps, deal_three, gather_two}

-- a text that is read
abbrev pub accepts : List ℕ → Sheet → Case
accepts s t = reads_text s none t

-- a text in two parts that is refused with 19 at the byte where the second begins, or at its length where that is empty
abbrev pub stops : List ℕ → List ℕ → Case
stops front rest = reads_text (front ++ rest) (outside (length front)) no_sheet

-- a text whose sheet is refused, with the number and the record
abbrev pub refuses : List ℕ → ℕ → ℕ → Case
refuses s number k = reads_text s (some (number, at_record k)) no_sheet

-- ---- texts and their sheets

abbrev pub text_a : List ℕ
text_a = word "output q2; input q0; vars 0; (q1) <- Keep[0,2,2](q0); (q2) <- Add[1,-5](q1);"

-- a sheet with a deal and a gather, with lines of two steps between them
abbrev pub dealt_sheet : Sheet
dealt_sheet =
    sheet_of 1 6 2
    (deal 0 0 (1 ∷ 2 ∷ [])
    ∷ line 1 3 (less_five ∷ copy_to 1 2 ∷ [])
    ∷ line 2 4 (less_five ∷ copy_to 1 2 ∷ [])
    ∷ gather 1 5 (3 ∷ 4 ∷ [])
    ∷ [])

abbrev pub dealt_text : List ℕ
dealt_text =
    word "output q5; input q0; vars 2; (q1, q2, $v0) <- Deal(q0, $v0); (q3) <- Add[1,-5] | Copy[1,2](q1); "
    ++ word "(q4) <- Add[1,-5] | Copy[1,2](q2); (q5, $v1) <- Gather(q3, q4, $v1);"

-- the steps with a variable, a double and a latest
abbrev pub named_sheet : Sheet
named_sheet = sheet_of 1 4 3 (line 0 1 (count_to 0 3 ∷ stamp_to 2 1 ∷ []) ∷ double 1 2 3 ∷ latest 3 2 1 ∷ [])

abbrev pub named_text : List ℕ
named_text = word "output q2; input q0; vars 3; (q1) <- Count[$v0,3] | Stamp[$v2,1](q0); (q2, q3) <- Double(q1); ($v2) <- Latest[1](q3);"

-- a sheet without outputs, and one without operators
abbrev pub sole_latest : Sheet
sole_latest = only 1 1 3 (latest 0 2 1)

abbrev pub four_inputs : Sheet
four_inputs = sheet_of 4 4 16 []

-- a line that keeps everything, by the ends of the range
abbrev pub ends_text : List ℕ
ends_text = word "output q1; input q0; vars 1; (q1) <- Keep[0,-2147483648,2147483647](q0);"

-- ---- printing

abbrev pub print_table : List Case
print_table =
    -- sheet A's text
    prints_text sheet_a text_a
    -- every kind of operator and every step
    ∷ prints_text dealt_sheet dealt_text
    ∷ prints_text named_sheet named_text
    ∷ prints_text deal_three (word "output q1, q2, q3; input q0; vars 1; (q1, q2, q3, $v0) <- Deal(q0, $v0);")
    ∷ prints_text gather_two (word "output q2; input q0, q1; vars 1; (q2, $v0) <- Gather(q0, q1, $v0);")
    -- a list without names; no operators; the ends of the range
    ∷ prints_text sole_latest (word "output; input q0; vars 3; ($v2) <- Latest[1](q0);")
    ∷ prints_text four_inputs (word "output q0, q1, q2, q3; input q0, q1, q2, q3; vars 16;")
    ∷ prints_text (line_of_steps (keep LEAST MOST ∷ [])) ends_text
    ∷ []

-- ---- reading

-- the front of a text that only the operators are missing from, and that of a line's steps
abbrev pub begun : List ℕ
begun = word "output q1; input q0; vars 1; "

abbrev pub begun_line : List ℕ
begun_line = begun ++ word "(q1) <- "

-- many operators, one short one again and again
abbrev pub latests : ℕ → List ℕ
latests n = chain (λ (s : List ℕ). s) (replicate n (word "($v0)<-Latest[0](q0);"))

abbrev pub text_table : List Case
text_table =
    -- what was printed is read
    accepts text_a sheet_a
    ∷ accepts dealt_text dealt_sheet
    ∷ accepts named_text named_sheet
    ∷ accepts (word "output q1, q2, q3; input q0; vars 1; (q1, q2, q3, $v0) <- Deal(q0, $v0);") deal_three
    ∷ accepts (word "output; input q0; vars 3; ($v2) <- Latest[1](q0);") sole_latest
    -- no blanks but those that have to stand; blanks wherever they may, of every kind
    ∷ accepts (word "output q2;input q0;vars 0;(q1)<-Keep[0,2,2](q0);(q2)<-Add[1,-5](q1);") sheet_a
    ∷ accepts
    (word "\toutput\n q2\r;\r\ninput\tq0 ; vars\r0 ;( q1 )<-\tKeep [ 0 , 2\n, 2 ] ( q0 ) ;\n\n(q2) <-\n Add [1 ,\t-5 ](q1 ) ;\r\n \t")
    sheet_a
    ∷ accepts (word "output ; input q0; vars 3; ($v2) <- Latest[1](q0);") sole_latest
    -- none inside a token, and at least one between a word and a name or number
    ∷ stops (word "out") (word " put q2;")
    ∷ stops (word "output q") (word " 2;")
    ∷ stops (begun ++ word "(q1) <") (word " - Add[1,-5](q0);")
    ∷ stops (begun_line ++ word "Add[1,-") (word " 5](q0);")
    ∷ stops (word "output") (word "q2; input q0; vars 0;")
    ∷ stops (word "output; input") (word "q0; vars 0;")
    ∷ stops (word "output; input q0; vars") (word "0;")
    -- q2 and then 4, at the 4; and $v1 and then 6
    ∷ stops (word "output q2") (word "4; input q0; vars 0;")
    ∷ stops (begun_line ++ word "Count[$v1") (word "6,0](q0);")
    -- (q1, q2, q3) at the ), Keep[0,-0 at the 0, a fifth step at its |, no step at the (
    ∷ stops (begun ++ word "(q1, q2, q3") (word ") <- Double(q0);")
    ∷ stops (begun_line ++ word "Keep[0,-") (word "0,0](q0);")
    ∷ stops (begun_line ++ word "Add[0,1] | Add[0,1] | Add[0,1] | Add[0,1] ") (word "| Add[0,1](q0);")
    ∷ stops begun_line (word "(q0);")
    -- a text cut short, at its length: without its last byte, after a word, after none; no bytes, and blanks alone
    ∷ stops (take 75 text_a) []
    ∷ stops (word "output") []
    ∷ stops (word "output q2; inp") []
    ∷ stops [] []
    ∷ stops (word " \n") []
    -- a byte that is no blank and of no token, and one past 127
    ∷ stops [] (word "#output;")
    ∷ stops (text_a ++ word " ") (200 ∷ [])
    -- a deal or gather whose two variables differ, at the first byte at which they can no longer be the same
    ∷ stops (begun ++ word "(q1, q2, $v1) <- Deal(q0, $v1") (word "2);")
    ∷ stops (begun ++ word "(q1, q2, $v12) <- Deal(q0, $v1") (word ");")
    ∷ stops (begun ++ word "(q1, q2, $v1) <- Deal(q0, $v") (word "2);")
    ∷ stops (begun ++ word "(q2, $v1) <- Gather(q0, q1, $v1") (word "0);")
    -- five ways; one way
    ∷ stops (begun ++ word "(q1, q2, q3, q4, ") (word "q5, $v0) <- Deal(q0, $v0);")
    ∷ stops (begun ++ word "(q1, $v0) <- ") (word "Deal(q0, $v0);")
    -- a leading zero, a plus sign
    ∷ stops (word "output q0") (word "0; input q0; vars 0;")
    ∷ stops (word "output; input q0; vars 0") (word "1;")
    ∷ stops (begun_line ++ word "Add[1,0") (word "5](q0);")
    ∷ stops (begun_line ++ word "Add[1,") (word "+5](q0);")
    -- the ends of the range, and one more to either side; a byte of 256
    ∷ accepts ends_text (line_of_steps (keep LEAST MOST ∷ []))
    ∷ stops (begun_line ++ word "Add[0,214748364") (word "8](q0);")
    ∷ stops (begun_line ++ word "Add[0,-214748364") (word "9](q0);")
    ∷ stops (begun_line ++ word "Copy[25") (word "6,0](q0);")
    ∷ stops (word "output; input q0; vars 25") (word "6;")
    -- 3 at the head: 17 operators, 5 inputs, no input, an input given twice so that Q is below I, no queue names, 17 variables
    ∷ refuses (begun ++ latests 17) 3 0
    ∷ refuses (word "output; input q0, q1, q2, q3, q4; vars 0;") 3 0
    ∷ refuses (word "output q1; input; vars 0; (q1) <- Add[1,-5](q0);") 3 0
    ∷ refuses (word "output q0; input q0, q0; vars 0;") 3 0
    ∷ refuses (word "output; input; vars 0;") 3 0
    ∷ refuses (word "output q0; input q0; vars 17;") 3 0
    -- at the ends: 16 operators, of which the second reads what the first reads; 4 inputs and 16 variables
    ∷ refuses (begun ++ latests 16) 5 2
    ∷ accepts (word "output q0, q1, q2, q3; input q0, q1, q2, q3; vars 16;") four_inputs
    -- 4 to 7 with their records: a queue read before it is defined, one never defined, a variable not below V, field 9
    ∷ refuses (word "output q1; input q0; vars 0; (q1) <- Add[1,-5](q2); (q2) <- Add[1,-5](q0);") 4 1
    ∷ refuses (word "output q2; input q0; vars 0; (q2) <- Add[1,-5](q0);") 5 2
    ∷ refuses (word "output q1; input q0; vars 1; (q1) <- Count[$v1,0](q0);") 6 1
    ∷ refuses (word "output; input q0; vars 1; ($v0) <- Latest[9](q0);") 7 1
    ∷ refuses (word "output q2; input q0; vars 0; (q1) <- Add[1,-5](q0); (q2) <- Copy[9,0](q1);") 7 2
    -- 19 before 3: 17 operators and a bad byte behind them
    ∷ stops (begun ++ latests 17) (word "x")
    -- the lists are judged after 7
    ∷ refuses (word "output q7; input q0; vars 1; ($v0) <- Latest[9](q0);") 7 1
    -- an output list that is not the sheet's own, at its first name: another queue, one too few, one too many, in another order; an empty one at its ;
    ∷ stops (word "output ") (word "q1; input q0; vars 0; (q1) <- Keep[0,2,2](q0); (q2) <- Add[1,-5](q1);")
    ∷ stops (word "output ") (word "q1; input q0, q1; vars 0;")
    ∷ stops (word "output\n") (word "q0, q23; input q0; vars 0;")
    ∷ stops (word "output ") (word "q1, q0; input q0, q1; vars 0;")
    ∷ stops (word "output") (word "; input q0; vars 0;")
    ∷ stops (word "output  ") (word "; input q0; vars 0;")
    -- an input list that is not q0 to q(I-1); both wrong: the output list's byte
    ∷ stops (word "output q0, q1; input ") (word "q1, q0; vars 0;")
    ∷ stops (word "output q1, q2; input\t ") (word "q0, q0; vars 0; (q2) <- Add[1,-5](q0);")
    ∷ stops (word "output ") (word "q1, q0; input q1, q0; vars 0;")
    ∷ []
