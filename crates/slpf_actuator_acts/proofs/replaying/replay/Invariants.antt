use Rattle.std.proofs.Common.{◌≡◌, take}
use Rattle.slpf_actuator_acts.specs.ActLists.{IsHistory, entries_of}
use Rattle.slpf_actuator_acts.proofs.replaying.replay.Given as goal

abbrev pub invariant-loop-n : goal.invariant-loop-n
invariant-loop-n l = record { entries : entries_of l.history ≡ take l.n l.journal.items; history : IsHistory l.history }
