-- `text_tree::head` meets its contract: one reader after the other, and where the lists begin.
-- Assumes nothing.
use borrow.Author.Rules.{rules}
use Rattle.text_tree.proofs.HeadLaws.{head_then, begins}
use Rattle.text_tree.proofs.head.Goals as goal

pub returns-in_err-c-7 : goal.returns-in_err-c-7
returns-in_err-c-7 c =
    record {
      reads = head_then c.in_ok-c.ensures c.in_ok-c-2.ensures c.in_ok-outputs.ensures c.in_ok-c-3.ensures c.in_ok-c-4.ensures c.in_ok-inputs.ensures
          (search rules);
      begins = search rules;
    }

pub returns-in_err-v : goal.returns-in_err-v
returns-in_err-v c =
    record {
      reads = head_then c.in_ok-c.ensures c.in_ok-c-2.ensures c.in_ok-outputs.ensures c.in_ok-c-3.ensures c.in_ok-c-4.ensures c.in_ok-inputs.ensures
          (search rules);
      begins = search rules;
    }

pub returns-in_err-c-8 : goal.returns-in_err-c-8
returns-in_err-c-8 c =
    record {
      reads = head_then c.in_ok-c.ensures c.in_ok-c-2.ensures c.in_ok-outputs.ensures c.in_ok-c-3.ensures c.in_ok-c-4.ensures c.in_ok-inputs.ensures
          (search rules);
      begins = search rules;
    }

pub returns : goal.returns
returns c =
    record {
      reads = head_then c.in_ok-c.ensures c.in_ok-c-2.ensures c.in_ok-outputs.ensures c.in_ok-c-3.ensures c.in_ok-c-4.ensures c.in_ok-inputs.ensures
          (search rules);
      begins = begins c.in_ok-c.ensures c.in_ok-c-2.ensures c.in_ok-outputs.ensures c.in_ok-c-3.ensures c.in_ok-c-4.ensures c.in_ok-inputs.ensures _;
    }
