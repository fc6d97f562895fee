use Rattle.std.proofs.Common.{◌∙◌, ◌++◌, ap, List}
use Rattle.std.specs.List.{flat_map}
use Rattle.serde_json.specs.Data.{Data}
use Rattle.cacao_view_preflight.specs.Warnings.{Text, of_step_members}
use Rattle.cacao_view_preflight.proofs.members.add_tree.Goals as goal

pub returns : goal.returns
returns c = c.in_ok-add_steps.ensures ∙ ap (λ (members : List (Text × Data)). c.args.lines.now ++ flat_map (of_step_members c.args.n) members) c.members_at.ensures.members
