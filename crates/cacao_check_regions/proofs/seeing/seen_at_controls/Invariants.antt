use Rattle.cacao_check_regions.specs.Seeing.{IsOnce}
use Rattle.cacao_check_regions.proofs.SightLists.{SeesBelow}
use Rattle.cacao_check_regions.proofs.seeing.seen_at_controls.Given as goal

abbrev pub invariant-loop-control : goal.invariant-loop-control
invariant-loop-control l = SeesBelow l.book l.name l.marks l.control l.items.items × IsOnce l.items.items
