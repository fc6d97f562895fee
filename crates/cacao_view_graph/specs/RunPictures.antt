-- Promise: The picture of the run that an engine's file keeps.
use Rattle.std.specs.Prelude.{◌≡◌, ◌⊎◌, ℕ, List, [], Some}
use Rattle.cacao_check.specs.Fits.{FitsKind}
use Rattle.run_records.specs.declared.record.Record.{Record}
use Rattle.flow_core_rules.specs.Accepted.{Accepted}
use Rattle.flow_core_rules.specs.State.{Shown}
use Rattle.flow_core.specs.Setups.{AreAccepted}
use Rattle.flow_engine_reports.specs.RunFiles.{TellsRun}
use Rattle.cacao_view_graph.specs.Pictures.{IsMarkedPicture, IsPicture}
use Rattle.cacao_view_graph.specs.declared.marks.Marks.{Marks}
use Rattle.cacao_view_graph.specs.declared.spot.Spot.{Spot}
use Rattle.cacao_view_graph.specs.Courses.{IsCourse}
use Rattle.cacao_view_graph.specs.Notes.{AreMarks}

-- The entries are the records of a run, and the lines are the picture of the playbooks of its Begin, with what the run marks at their steps.
pub record DrawsRun (entries lines : List (List ℕ)) : Type 0 where
  pub records : List Record
  pub seen : Shown
  pub tells : TellsRun entries records seen
  pub walked : List Spot
  pub sent : List Spot
  pub course : IsCourse seen.given seen.run records walked sent
  pub accepted : Accepted AreAccepted FitsKind seen.given.texts seen.given.bind seen.given
  pub marks : Marks
  pub marked : AreMarks seen walked sent marks
  pub picture : IsMarkedPicture (Some marks) accepted.trees lines

-- of a file without a record the lines are the picture of no playbooks
abbrev pub DrawsEntries : List (List ℕ) → List (List ℕ) → Type 0
DrawsEntries entries lines = ((entries ≡ []) × IsPicture [] lines) ⊎ DrawsRun entries lines
