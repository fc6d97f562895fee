use Rattle.std.proofs.Common.{◌∙◌, ◌++◌, ap, List, codes, map}
use Rattle.std.specs.List.{flat_map}
use Rattle.std.specs.Prelude.{not}
use Rattle.serde_json.specs.Data.{Data}
use Rattle.cacao_json.specs.Tree.{pair_data}
use Rattle.cacao_book_shape.specs.Members.{some_text}
use Rattle.cacao_view_preflight.specs.Warnings.{Text, is_step_member, member_line, warn_if}
use Rattle.cacao_view_preflight.proofs.members.add_step.Goals as goal

pub returns : goal.returns
returns c =
    let step : Text × Data = pair_data c.args.step.now in
    let of : Text → Text → List (Text × Data) → List Text = λ key kind members. flat_map (λ m. warn_if (not (is_step_member kind m.0)) (member_line c.args.n key m.0)) members in
    c.in_ok-add_members.ensures ∙ ap (λ (key : Text). c.args.lines.now ++ of key c.some_text-kind.result.now (map pair_data c.members_of.result.now)) c.text.ensures
    ∙ ap (λ (kind : Text). c.args.lines.now ++ of step.0 kind (map pair_data c.members_of.result.now)) c.some_text-kind.ensures
    ∙ ap (λ (members : List (Text × Data)). c.args.lines.now ++ of step.0 (some_text (codes "type") step.1) members) c.members_of.ensures
