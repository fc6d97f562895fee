use Rattle.std.proofs.Common.{◌≡◌, ◌-◌, drop}
use Rattle.flow_core_rules.specs.Values.{text_at}
use Rattle.flow_core_tables.specs.TableFacts.{lists_of}
use Rattle.flow_core_values.proofs.SizeLemmas.{references_bytes}
use Rattle.flow_core_values.proofs.run.Run.take_replaced.Given as goal

abbrev pub invariant-loop-reference : goal.invariant-loop-reference
invariant-loop-reference l =
    l.left - references_bytes (text_at (lists_of l.self.tables) l.scope) l.quoted (drop l.reference-index l.references)
    ≡ l.initial.left - references_bytes (text_at (lists_of l.self.tables) l.scope) l.quoted l.references
