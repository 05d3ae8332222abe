use Rattle.sheet.specs.Sheet.{view_sheet}
use Rattle.text_form.specs.Form.{outputs_of}
use Rattle.text_own.proofs.Own.{outputs_short}
use Rattle.text_parts.proofs.Pieces.{spelt}
use Rattle.text_print.proofs.Naming.{kept_few, kept_names}
use Rattle.text_print.proofs.put_outputs.Goals as goal

pub put_names-requires : goal.put_names-requires
put_names-requires c =
    (kept_few c.outputs-n.result (outputs_of (view_sheet c.args.t)) c.outputs-n.ensures (outputs_short c.args.t c.requires.0), c.requires.1)

pub returns : goal.returns
returns c =
    spelt (kept_names c.outputs-n.result (outputs_of (view_sheet c.args.t)) c.outputs-n.ensures (outputs_short c.args.t c.requires.0)) c.put_names.ensures
