-- `text_lists::names` meets its contract: what the program keeps of the names is kept of the list.
-- Assumes nothing.
use borrow.Author.Rules.{rules}
use Rattle.std.proofs.lemmas.Result.{err_from_is_err_and}
use Rattle.text_lists.proofs.Kept.{reads_kept}
use Rattle.text_lists.proofs.names.Goals as goal

pub returns-in_err-all : goal.returns-in_err-all
returns-in_err-all c =
    let r = err_from_is_err_and c.from_residual-in_err-all.result c.from_residual-in_err-all.ensures.1 in
    rw (r.1, r.2) (record { names = reads_kept (search rules); start = search rules })

pub returns : goal.returns
returns c = record { names = reads_kept (search rules); start = search rules }
