use Rattle.cacao_check_regions.specs.Memories.{Remembers}
use Rattle.cacao_check.proofs.WalkLemmas.{PlacesKept}
use Rattle.cacao_check.proofs.walking.break_of_book.Given as goal

abbrev pub invariant-loop-rank : goal.invariant-loop-rank
invariant-loop-rank l = PlacesKept l.books l.mode l.number l.rank × Remembers l.book l.memory
