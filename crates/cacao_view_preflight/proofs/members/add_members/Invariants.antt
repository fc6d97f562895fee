use Rattle.std.proofs.Common.{◌≡◌, ◌++◌, drop, map}
use Rattle.std.specs.List.{flat_map}
use Rattle.std.specs.Prelude.{not}
use Rattle.cacao_json.specs.Tree.{pair_data}
use Rattle.cacao_view_preflight.specs.Warnings.{is_step_member, member_line, warn_if}
use Rattle.cacao_view_preflight.proofs.members.add_members.Given as goal

abbrev pub invariant-loop-member : goal.invariant-loop-member
invariant-loop-member l =
    l.lines ++ flat_map (λ m. warn_if (not (is_step_member l.kind m.0)) (member_line l.n l.key m.0)) (map pair_data (drop l.member-index l.members))
    ≡ l.fn.lines ++ flat_map (λ m. warn_if (not (is_step_member l.kind m.0)) (member_line l.n l.key m.0)) (map pair_data l.members)
