-- The test of two lists by what the program keeps of them.
use Rattle.std.specs.Prelude.{Bool, ◌&&◌, eqb}
use Rattle.text_lists.specs.declared.KeptNames.{KeptNames}
use Rattle.text_form.specs.Reading.{same_list}

abbrev pub same_kept : KeptNames → KeptNames → Bool
same_kept a b = eqb a.count b.count && same_list a.queues b.queues
