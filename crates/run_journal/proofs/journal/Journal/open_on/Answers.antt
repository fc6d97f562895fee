-- The other files stay in each call.
use Rattle.cacao_site.proofs.Beats.{goes_on-trans, stays-trans, others-trans}
use Rattle.run_journal.proofs.journal.Journal.open_on.Goals as goal

pub returns-in_default-clause-others : goal.returns-in_default-clause-others
returns-in_default-clause-others g c = others-trans c.sync.ensures.call c.length.ensures.call

pub returns-then-size-gt-MOST_IMAGE-clause-others : goal.returns-then-size-gt-MOST_IMAGE-clause-others
returns-then-size-gt-MOST_IMAGE-clause-others g c = others-trans c.sync.ensures.call c.length.ensures.call

pub returns-in-Ok-read_journal-clause-others : goal.returns-in-Ok-read_journal-clause-others
returns-in-Ok-read_journal-clause-others g c = λ other ne.
    stays-trans (goes_on-trans c.sync.ensures.call.goes_on c.length.ensures.call.goes_on) c.read_journal.ensures.only.goes_on (others-trans c.sync.ensures.call c.length.ensures.call other ne) (c.read_journal.ensures.only.stays other)

pub returns-in-Err-clause-others : goal.returns-in-Err-clause-others
returns-in-Err-clause-others g c = λ other ne.
    stays-trans (goes_on-trans c.sync.ensures.call.goes_on c.length.ensures.call.goes_on) c.read_journal.ensures.only.goes_on (others-trans c.sync.ensures.call c.length.ensures.call other ne) (c.read_journal.ensures.only.stays other)
