use Rattle.std.proofs.Common.{◌≡◌, ◌++◌, ℕ, List, length}
use Rattle.std.specs.Vec.Iter.{into_iter_items, into_iter_len}
use Rattle.flow_core_rules.specs.Givens.{Given}
use Rattle.flow_fleet.proofs.OpenLemmas.{HasOpened}
use Rattle.flow_fleet.proofs.opening.open_journals.Given as goal

abbrev pub invariant-loop-run : goal.invariant-loop-run
invariant-loop-run g l = record {
  done : List (ℕ × Given);
  all : l.fn.runs ≡ done ++ into_iter_items l.run-iterator;
  left : into_iter_len l.run-iterator ≡ length (into_iter_items l.run-iterator);
  opened : HasOpened l.fn.runs (g.R.Disk.view l.fn.rack) (g.R.Disk.view l.rack) (length done) l.engines.items l.place;
}
