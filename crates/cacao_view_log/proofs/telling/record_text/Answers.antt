-- A line asks for the key of the step of a Walk alone.
use Rattle.std.proofs.Common.{◌≡◌, sym, subst}
use Rattle.std.specs.Prelude.{IfOk}
use Rattle.cacao_view_log.specs.Texts.{record_text}
use Rattle.cacao_view_log.specs.declared.form.Form.{Form}
use Rattle.cacao_view_log.proofs.TellLemmas.{key_for}
use Rattle.cacao_view_log.proofs.telling.record_text.Goals as goal

pub returns-in-Line : goal.returns-in-Line
returns-in-Line c = λ before sent by at.
    subst (λ (f : Form). IfOk c.record_line.result (λ text. text ≡ record_text f c.args.run before sent c.args.n c.args.item.now)) (sym c.in-Line.is)
    (c.record_line.ensures before (key_for before sent c.args.item.now c.args.step.now at))
