use Rattle.std.proofs.Common.{◌∙◌, ap}
use Rattle.std.specs.Prelude.{Err}
use Rattle.cacao_cli_rehearsal.proofs.Given.{no_bad_line, none_told}
use Rattle.cacao_cli_rehearsal.proofs.setting.no_answers.Goals as goal

pub unreachable-requires : goal.unreachable-requires
unreachable-requires c =
    no_bad_line c.in-Err-Line.field-0-0 (c.read_answers.ensures.line c.in-Err-Line.field-0-0 (c.in-Err-Line.is ∙ ap (λ e. Err e) c.in-Err-Line.field-0-is))

pub returns-in-Ok : goal.returns-in-Ok
returns-in-Ok c = none_told 1 c.in-Ok.answers c.in-Ok.ensures.ok
