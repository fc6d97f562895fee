use Rattle.std.proofs.Common.{◌∙◌, ◌++◌, ap, List, map}
use Rattle.std.specs.List.{flat_map}
use Rattle.std.specs.Prelude.{not}
use Rattle.serde_json.specs.Data.{Data}
use Rattle.cacao_json.specs.Tree.{pair_data}
use Rattle.cacao_view_preflight.specs.Warnings.{Text, is_step_member, member_line, warn_if}
use Rattle.cacao_view_preflight.proofs.EachLemmas.{added_mapped}
use Rattle.cacao_view_preflight.proofs.members.add_members.Goals as goal

pub loop-member-preserved : goal.loop-member-preserved
loop-member-preserved c =
    let make : Text × Data → List Text = λ m. warn_if (not (is_step_member c.args.kind.now m.0)) (member_line c.args.n c.args.key.now m.0) in
    added_mapped pair_data make c.args.members.now c.loop-member.member-index c.member-item.result c.loop-member.lines c.add_member.new.lines
    (c.args.lines.now ++ flat_map make (map pair_data c.args.members.now)) c.loop-member-test.true c.member-item.is
    (c.in_ok-add_member.ensures ∙ ap (λ (name : Text). c.loop-member.lines ++ warn_if (not (is_step_member c.args.kind.now name)) (member_line c.args.n c.args.key.now name)) c.text.ensures)
    c.loop-member.invariant
