-- The first run that is left, and those behind it.
use Rattle.std.proofs.Common.{◌∙◌, sym, true, false}
use Rattle.cacao_cli_words.specs.RunBooks.{run_of}
use Rattle.cacao_cli_words.proofs.PairLemmas.{apart-step}
use Rattle.cacao_cli_words.proofs.fleet_reading.are_apart.Goals as goal

pub returns-then-has_run : goal.returns-then-has_run
returns-then-has_run c = sym (c.loop-rest.invariant ∙ apart-step run_of c.loop-rest.rest.now c.first-item.result _ c.in-len1-up.len_at_least c.first-item.is true (sym c.if-has_run.true ∙ c.has_run.ensures))

pub loop-rest-preserved : goal.loop-rest-preserved
loop-rest-preserved c = c.loop-rest.invariant ∙ apart-step run_of c.loop-rest.rest.now c.first-item.result _ c.in-len1-up.len_at_least c.first-item.is false (sym c.if-has_run.false ∙ c.has_run.ensures)
