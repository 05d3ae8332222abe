-- The text of a sheet, and the sheet that a text stands for.
use Rattle.std.specs.Prelude.{ℕ, suc, cond, List, [], ◌∷◌, ◌++◌, leb, length}
use Rattle.base_lists.specs.Lists.{build, chain}
use Rattle.sheet_operator.specs.Op.{Op, Abstract, reads, defines}
use Rattle.run_machine.specs.Machine.{is_output}
use Rattle.text_grammar.specs.Readers.{Tree}
use Rattle.text_grammar.specs.Tokens.{printed, text_tokens}

-- the sheet's own lists: the outputs in number order, the inputs q0 to q(I-1)
abbrev pub outputs_of : Abstract → List ℕ
outputs_of a = chain (λ (q : ℕ). cond (is_output a q) (q ∷ []) []) (build a.queues (λ (q : ℕ). q))

abbrev pub inputs_of : Abstract → List ℕ
inputs_of a = build a.inputs (λ (q : ℕ). q)

abbrev pub tree_of : Abstract → Tree
tree_of a = record { outputs = outputs_of a; inputs = inputs_of a; variables = a.variables; ops = a.ops }

-- the one printed form of a sheet
unfoldable pub sheet_text : Abstract → List ℕ
sheet_text a = printed (text_tokens (tree_of a))

-- one more than the highest of some numbers, 0 where there is none
abbrev pub above : List ℕ → ℕ
above [] = 0
above (q ∷ qs) = cond (leb (above qs) q) (suc q) (above qs)

-- I is the length of the input list, Q one more than the highest queue number in it and the operators
abbrev pub sheet_of : Tree → Abstract
sheet_of t =
    record {
      inputs = length t.inputs;
      queues = above (t.inputs ++ chain (λ (o : Op). reads o ++ defines o) t.ops);
      variables = t.variables;
      ops = t.ops;
    }
