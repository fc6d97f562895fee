use Rattle.std.proofs.Common.{◌+◌, ◌*◌, length, not, Contains, count_by}
use Rattle.base_graphs.specs.Tables.{Leads}
use Rattle.base_graphs.specs.Searching.{Searches}
use Rattle.base_graphs.proofs.searching.reached_past_guards.Given as goal

abbrev pub invariant-loop-place : goal.invariant-loop-place
invariant-loop-place l = Searches (Contains l.first) (Leads l.free l.guarded l.shut l.blocked) l.count l.marks l.work.items

abbrev pub decreases-loop-place : goal.decreases-loop-place
decreases-loop-place l = 2 * count_by not l.marks + length l.work.items
