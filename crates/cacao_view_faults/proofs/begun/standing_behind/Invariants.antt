use Rattle.std.proofs.Common.{◌≡◌, take}
use Rattle.cacao_view_faults.specs.Closing.{standing_behind}
use Rattle.cacao_view_faults.specs.StandingBy.{standing_by}
use Rattle.cacao_view_faults.proofs.begun.standing_behind.Given as goal

abbrev pub invariant-loop-n : goal.invariant-loop-n
invariant-loop-n l = standing_by l.standing ≡ standing_behind (take l.n l.bytes)
