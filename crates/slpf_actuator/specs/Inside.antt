-- Promise: What an `Actuator` keeps.
use Rattle.std.specs.Prelude.{◌≡◌, ◌≤◌, false}
use Rattle.slpf_actuator.specs.declared.actuator.Actuator.TheInside.{Inside}
use Rattle.slpf_actuator_acts.specs.ActLists.{entries_of}
use Rattle.slpf_actuator_acts.specs.ActuatorView.{ActuatorView}

abbrev pub actuator_view : Inside → ActuatorView
actuator_view a = record { agent = a.journal.file; acts = a.history; prepared = a.journal.prepared; broken = a.broken }

-- the journal is that of an agent; until a call was refused it holds the acts
pub record IsKept (a : Inside) : Type 0 where
  pub low : 1 ≤ a.journal.file
  pub high : a.journal.file ≤ 16
  pub whole : a.broken ≡ false → a.journal.broken ≡ false
  pub entries : a.broken ≡ false → a.journal.items ≡ entries_of a.history
