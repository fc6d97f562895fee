-- Promise: What a session keeps in view: the site, the engine, the filters, what it remembers, and what it has to do next.
use Rattle.std.specs.Prelude.{◌≡◌, ℕ, Bool, true, false, List, length, Option, ⊤}
use Rattle.cacao_site.specs.View.{SiteView}
use Rattle.cacao_site.specs.declared.parcel.Parcel.{Parcel}
use Rattle.run_records.specs.declared.record.Record.{Record}
use Rattle.run_records.specs.declared.act.Act.{Act}
use Rattle.flow_engine.specs.LimitKind.{LimitKind}
use Rattle.flow_engine.specs.OperatorAnswer.{OperatorAnswer}
use Rattle.flow_engine.specs.EngineView.{EngineView}
use Rattle.slpf_actuator.specs.ActuatorView.{ActuatorView}

-- why a session refuses, once its files are open
pub data Cause : Type 0 where
  disk_failed : Cause
  not_said : Cause  -- a line could not be said
  run_used : (agent : ℕ) → Cause  -- the journal is empty, and this filter has an act of the run
  past : LimitKind → Cause  -- a limit would be passed
  wants_memory : Cause

-- what a session has to do next
pub data Phase : Type 0 where
  opened : Phase  -- the files are open, and the clock was not asked yet
  rests : Phase  -- a turn may begin
  looked : Phase  -- a take of this turn found no parcel
  owes : Phase  -- the line of the last record is to be said
  holds : (beat : ℕ) → Parcel → Phase  -- a parcel was taken at that beat, and is to be handed on
  waits : (due : ℕ) → Phase  -- the clock answered less than this moment, which it was asked for: the session closes
  refused : Cause → Bool → Phase  -- a call refused; true: the line of the last record was not said

-- what a session was given, and what it did
pub record Notes : Type 0 where
  pub answers : List OperatorAnswer  -- of operators, for this run
  pub left : ℕ  -- how many records more may be appended
  pub unsure : Option Record  -- one that may stand in the journal behind the others: the disk failed while it was appended
  pub acted : List (ℕ × Act)  -- the acts that were appended, each with its agent
  pub unsure_act : Option (ℕ × Act)  -- one that may stand in its filter's file: the filter refused meanwhile
  pub put : List ℕ  -- the issues whose commands were put, in order
  pub ignored : ℕ  -- the parcels that changed neither journal
  pub asked : Option ℕ  -- the moment that the clock was asked for last

pub record World : Type 0 where
  pub site : SiteView
  pub engine : EngineView
  pub filters : List ActuatorView  -- those that stand here: of agents 1, 2 and so on, in order
  pub notes : Notes
  pub phase : Phase

-- a filter stands here for each of the agents 1 to 16
abbrev pub HasAllFilters : World → Type 0
HasAllFilters w = length w.filters ≡ 16

-- whether a record's line is owed, or was not said
abbrev pub owes_line : Phase → Bool
owes_line owes = true
owes_line (refused cause lacks) = lacks
owes_line other = false

-- the session has neither refused nor waits
abbrev pub IsGoing : Phase → Type 0
IsGoing (refused cause lacks) = ⊥
IsGoing (waits due) = ⊥
IsGoing other = ⊤
