-- Scaffold: How the entries of a run are followed one after another.
use Rattle.std.specs.Prelude.{◌≡◌, ℕ, List, [], ◌∷◌, ◌++◌, Some, length}
use Rattle.std.specs.List.{AllByRecursion}
use Rattle.run_records.specs.Ranges.{InRange}
use Rattle.run_records.specs.declared.record.Record.{Record}
use Rattle.cacao_check.specs.Fits.{FitsKind}
use Rattle.flow_core_rules.specs.Accepted.{Accepted}
use Rattle.flow_core_rules.specs.Givens.{Given}
use Rattle.flow_core_rules.specs.State.{Shown}
use Rattle.flow_core.specs.Setups.{AreAccepted}
use Rattle.flow_core.specs.Views.{View}
use Rattle.flow_engine_history.specs.HistoryView.{entries_of}
use Rattle.flow_engine_history.specs.Histories.{IsShownAfter}
use Rattle.flow_engine_reports.specs.Beginnings.{HasBegun}
use Rattle.flow_engine_reports.specs.Replaying.{IsReplayed, TakesEntry}
use Rattle.flow_engine_reports.specs.RunFiles.{TellsRun}
use Rattle.cacao_view_graph.specs.Courses.{IsCourse, behind_all, sends, sent_by, walked_by, walks}
use Rattle.cacao_view_graph.specs.Pictures.{IsMarkedPicture}
use Rattle.cacao_view_graph.specs.declared.marks.Marks.{Marks}
use Rattle.cacao_view_graph.specs.Notes.{AreMarks}
use Rattle.cacao_view_graph.specs.declared.course.Course.{Course}

-- the course of a run, one record more
pub record Adds (old : Course) (s : Shown) (r : Record) (new : Course) : Type 0 where
  pub walked : new.walked.items ≡ old.walked.items ++ walked_by s r
  pub sent : new.sent.items ≡ old.sent.items ++ sent_by s r

-- the record of an entry was taken, and its course is kept
pub record FollowsEntry (old : View) (course : Course) (item : List ℕ) (new : View) (more : Course) : Type 0 where
  pub takes : TakesEntry old item new
  pub adds : Adds course old.seen takes.r more

-- the flow after the records of these entries, and their course
pub record IsFollowed (given : Given) (run : ℕ) (items : List (List ℕ)) (flow : View) (course : Course) : Type 0 where
  pub replayed : IsReplayed given run items flow
  pub begin : Record
  pub others : List Record
  pub first : Shown
  pub ranges : AllByRecursion InRange (begin ∷ others)
  pub are : items ≡ entries_of (begin ∷ others)
  pub shows : IsShownAfter given run (begin ∷ []) first
  pub seen_is : flow.seen ≡ behind_all first others
  pub walked_are : course.walked.items ≡ walks first others
  pub sent_are : course.sent.items ≡ sends first others

-- the entry began the flow, and nothing is walked or sent
pub record BeginsCourse (entry : List ℕ) (course : Course) (flow : View) : Type 0 where
  pub begun : HasBegun entry flow
  pub followed : IsFollowed flow.seen.given flow.seen.run (entry ∷ []) flow course

-- the lines are the picture of a run that stands so and went so
pub record DrawsFlow (flow : View) (course : Course) (lines : List (List ℕ)) : Type 0 where
  pub accepted : Accepted AreAccepted FitsKind flow.seen.given.texts flow.seen.given.bind flow.seen.given
  pub marks : Marks
  pub marked : AreMarks flow.seen course.walked.items course.sent.items marks
  pub picture : IsMarkedPicture (Some marks) accepted.trees lines

-- the entries are the records of a run that stands so and went so
pub record TellsCourse (entries : List (List ℕ)) (flow : View) (course : Course) : Type 0 where
  pub records : List Record
  pub tells : TellsRun entries records flow.seen
  pub count : flow.count ≡ length records
  pub course_is : IsCourse flow.seen.given flow.seen.run records course.walked.items course.sent.items
