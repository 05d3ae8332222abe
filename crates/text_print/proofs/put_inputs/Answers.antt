use Rattle.sheet.specs.Sheet.{view_sheet}
use Rattle.text_form.specs.Form.{inputs_of}
use Rattle.text_own.proofs.Own.{inputs_short}
use Rattle.text_parts.proofs.Pieces.{spelt}
use Rattle.text_print.proofs.Naming.{kept_few, kept_names}
use Rattle.text_print.proofs.put_inputs.Goals as goal

pub put_names-requires : goal.put_names-requires
put_names-requires c =
    (kept_few c.inputs-n.result (inputs_of (view_sheet c.args.t)) c.inputs-n.ensures (inputs_short c.args.t c.requires.0), c.requires.1)

pub returns : goal.returns
returns c =
    spelt (kept_names c.inputs-n.result (inputs_of (view_sheet c.args.t)) c.inputs-n.ensures (inputs_short c.args.t c.requires.0)) c.put_names.ensures
