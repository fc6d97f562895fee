-- Promise: An end of the code as that of the definitions.
use Rattle.cacao_cli_ends.specs.Ends as as_said
use Rattle.cacao_cli_ends.specs.declared.end.End.{End}
use Rattle.cacao_cli_ends.specs.declared.end.End.TheVariants as how

abbrev pub end_of : End → as_said.End
end_of how.Done = as_said.done
end_of how.Accepted = as_said.accepted
end_of (how.Refused broken) = as_said.refused broken
end_of (how.BindRefused rule) = as_said.bind_refused rule
end_of how.EndedOk = as_said.ended_ok
end_of how.EndedFailed = as_said.ended_failed
end_of how.Paused = as_said.paused
end_of (how.Waiting moment) = as_said.waiting moment
end_of how.Flooded = as_said.flooded
end_of (how.Asked issue) = as_said.asked_for issue
end_of (how.OtherRun held asked) = as_said.other_run held asked
end_of (how.OtherBook index) = as_said.other_book index
end_of (how.RunUsed agent) = as_said.run_used agent
end_of how.NotUnderstood = as_said.not_understood
end_of (how.Past limit) = as_said.past limit
end_of (how.ShelfFailed line) = as_said.shelf_failed line.name.now
end_of (how.NoSuchFile name) = as_said.no_such_file name.now
end_of (how.NotReadable name reason) = as_said.not_readable name.now reason
end_of (how.Agrees records acts) = as_said.agrees records acts
end_of (how.Disagrees file place) = as_said.disagrees file place
end_of (how.Rehearsed positions records acts rules) = as_said.rehearsed positions records acts rules
end_of (how.Damaged file place) = as_said.damaged file place
end_of how.PeersFailed = as_said.peers_failed
end_of how.DiskFailed = as_said.disk_failed
end_of how.Unsaid = as_said.unsaid
end_of how.NoMemory = as_said.no_memory
