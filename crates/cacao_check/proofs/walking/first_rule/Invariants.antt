use Rattle.cacao_check_regions.specs.Memories.{Remembers}
use Rattle.cacao_check.proofs.WalkLemmas.{RulesKept}
use Rattle.cacao_check.proofs.walking.first_rule.Given as goal

abbrev pub invariant-loop-which : goal.invariant-loop-which
invariant-loop-which l = RulesKept l.books l.mode l.number l.place l.which × Remembers l.book l.memory
