use Rattle.std.proofs.Common.{◌≡◌, drop, map}
use Rattle.serde_json.specs.Find.{get_member}
use Rattle.cacao_json.specs.Tree.{members_of}
use Rattle.flow_core_texts.specs.Contents.{entry_data}
use Rattle.flow_core_texts.proofs.contents.Entries.member.Given as goal

-- a member that is not among the first ones is among those that are left
abbrev pub invariant-loop-entry : goal.invariant-loop-entry
invariant-loop-entry l =
    get_member l.name (members_of (map entry_data (drop l.entry-index l.entries))) ≡ get_member l.name (members_of (map entry_data l.entries))
