use Rattle.std.proofs.Common.{length, IsUtf8}
use Rattle.flow_core_texts.specs.Phrases.{AreFirstReferences}
use Rattle.flow_core_texts.proofs.phrases.Phrase.read.Given as goal

abbrev pub invariant-loop-found : goal.invariant-loop-found
invariant-loop-found l = IsUtf8 l.rest × AreFirstReferences l.text l.references.items l.rest

abbrev pub decreases-loop-found : goal.decreases-loop-found
decreases-loop-found l = length l.rest
