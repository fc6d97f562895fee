use Rattle.std.proofs.Common.{◌≡◌, take, string_bytes}
use Rattle.flow_core_rules.specs.Values.{text_at}
use Rattle.flow_core_texts.specs.Phrases.{spelled_by}
use Rattle.flow_core_tables.specs.TableFacts.{lists_of}
use Rattle.flow_core_values.proofs.run.Run.replaced.Given as goal

abbrev pub invariant-loop-reference : goal.invariant-loop-reference
invariant-loop-reference l = string_bytes l.made ≡ spelled_by (text_at (lists_of l.self.tables) l.scope) (take l.reference-index l.references)
