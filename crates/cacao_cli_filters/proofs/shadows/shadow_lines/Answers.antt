-- The lines are those of the list.
use Rattle.std.proofs.lemmas.Result.{IfOk-weaker}
use Rattle.std.proofs.Common.{◌∙◌, ap, map}
use Rattle.cacao_cli_filters.specs.Lines.{shadow_line}
use Rattle.cacao_cli_filters.proofs.shadows.shadow_lines.Goals as goal

pub returns : goal.returns
returns c = IfOk-weaker c.lines_of.result _ _ (λ lines e. record {
  list = c.in_ok-list.list;
  shadowed = record { listed = c.in_ok-list.ensures.listed; least = c.in_ok-list.ensures.least; rising = c.in_ok-list.ensures.rising };
  are = e ∙ ap (map shadow_line) c.as_slice.ensures;
}) c.lines_of.ensures
