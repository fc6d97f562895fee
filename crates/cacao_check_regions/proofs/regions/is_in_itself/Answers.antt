use Rattle.std.proofs.Common.{sym, ◌∙◌}
use Rattle.std.proofs.lemmas.Bool.{false≢true}
use Rattle.cacao_check_regions.proofs.regions.is_in_itself.Goals as goal

pub returns-then-not-has : goal.returns-then-not-has
returns-then-not-has c = (λ m. absurd (false≢true m), λ e. absurd (false≢true (sym c.if-not-has.true ∙ c.has.ensures ∙ c.requires.marks e)))
