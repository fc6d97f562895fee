-- Scaffold: Where some bytes end, in the code, as in the definitions.
use Rattle.cacao_view_faults.specs.Closing as as_said
use Rattle.cacao_view_faults.specs.declared.begun.Standing.{Standing}

abbrev pub standing_by : Standing → as_said.Standing
standing_by standing = record { in_string = standing.in_string; escaped = standing.escaped; closers = standing.closers.items }
