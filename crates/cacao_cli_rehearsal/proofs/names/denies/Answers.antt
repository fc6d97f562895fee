use Rattle.std.proofs.Common.{◌∙◌, ◌/◌, ◌%◌}
use Rattle.std.specs.Prelude.{decimal}
use Rattle.cacao_cli_rehearsal.proofs.CommandTexts.{denied}
use Rattle.cacao_cli_rehearsal.proofs.names.denies.Goals as goal

pub returns : goal.returns
returns c = c.in_ok-text.ensures.ok ∙ denied (decimal (c.args.position / 256)) (decimal (c.args.position % 256))
