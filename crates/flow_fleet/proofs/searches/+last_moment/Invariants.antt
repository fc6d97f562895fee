use Rattle.std.proofs.Common.{length}
use Rattle.flow_fleet.proofs.searches.+last_moment.Given as goal

abbrev pub decreases-last_moment : goal.decreases-last_moment
decreases-last_moment l = length l.engines.now
