use Rattle.std.proofs.Common.{◌∙◌}
use Rattle.flow_core_tables.specs.TableFacts.{lists_of}
use Rattle.flow_core_values.proofs.SizeLemmas.{command_taken}
use Rattle.flow_core_values.proofs.run.Run.take_command.Goals as goal

pub returns : goal.returns
returns c =
    rw c.in-Members.is
    (command_taken (lists_of c.args.self.now.tables) c.args.scope c.args.self.now.number _ c.in-Members.entries c.member.result c.args.left.now _ _ _ _ _ _
    c.as_slice.ensures.sorted c.take.ensures c.take_id.ensures (c.len.ensures ∙ c.args.self.now.tables.issues.ok.0) c.take-2.ensures c.member.ensures
    c.take_args.ensures c.take_entries.ensures)
