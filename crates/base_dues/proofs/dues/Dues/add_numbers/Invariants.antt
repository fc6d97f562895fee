use Rattle.std.proofs.Common.{◌≡◌, ◌≤◌, ◌-◌}
use Rattle.base_dues.proofs.dues.Dues.add_numbers.Given as goal

abbrev pub invariant-loop-self : goal.invariant-loop-self
invariant-loop-self l = record { same : l.self.pairs ≡ l.initial.self.pairs; room : l.initial.self.room ≤ l.self.room }

abbrev pub decreases-loop-self : goal.decreases-loop-self
decreases-loop-self l = l.numbers - l.self.room
