-- The first file that is left, and those behind it.
use Rattle.std.proofs.Common.{◌∙◌, sym, true, false}
use Rattle.cacao_cli_words.specs.Commands.{filter_of}
use Rattle.cacao_cli_words.proofs.PairLemmas.{apart-step}
use Rattle.cacao_cli_words.proofs.audit_words.are_apart.Goals as goal

pub returns-then-has_agent : goal.returns-then-has_agent
returns-then-has_agent c = sym (c.loop-rest.invariant ∙ apart-step filter_of c.loop-rest.rest.now c.first-item.result _ c.in-len1-up.len_at_least c.first-item.is true (sym c.if-has_agent.true ∙ c.has_agent.ensures))

pub loop-rest-preserved : goal.loop-rest-preserved
loop-rest-preserved c = c.loop-rest.invariant ∙ apart-step filter_of c.loop-rest.rest.now c.first-item.result _ c.in-len1-up.len_at_least c.first-item.is false (sym c.if-has_agent.false ∙ c.has_agent.ensures)
