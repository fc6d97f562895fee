use Rattle.cacao_cond.proofs.reading.+read_constants.Given as goal

abbrev pub decreases-read_constants : goal.decreases-read_constants
decreases-read_constants l = l.levels
