-- Scaffold: How the entries of a run are told one after another.
use Rattle.std.specs.Prelude.{◌≡◌, ℕ, List, [], ◌∷◌, ◌++◌, codes, Option, Some, None, length, ⊤}
use Rattle.std.specs.List.{AllByRecursion}
use Rattle.serde_json.specs.Data.{Members, put, string}
use Rattle.oc2_msg_targets.specs.Parts.{whole_data}
use Rattle.run_records.specs.Layout.{layout}
use Rattle.run_records.specs.Ranges.{InRange}
use Rattle.run_records.specs.Reading.{record_of}
use Rattle.run_records.specs.declared.record.Record.{Record}
use Rattle.flow_core_rules.specs.Givens.{Given}
use Rattle.flow_core_rules.specs.Lines.{key_of}
use Rattle.flow_core_rules.specs.State.{Shown}
use Rattle.flow_core.specs.Views.{View}
use Rattle.flow_engine_history.specs.HistoryView.{entries_of}
use Rattle.flow_engine_history.specs.Replays.{MakesTooMany}
use Rattle.flow_engine_reports.specs.Beginnings.{HasBegun}
use Rattle.flow_engine_reports.specs.Replaying.{IsReplayed, TakesEntry}
use Rattle.flow_engine_reports.specs.RunFiles.{TellsRun}
use Rattle.flow_engine_reports.specs.declared.error.ReportError.{ReportError}
use Rattle.flow_engine_reports.specs.declared.error.ReportError.TheVariants.{Damaged, TooManyTasks, Memory}
use Rattle.cacao_view_log.specs.Logs.{AreTold}
use Rattle.cacao_view_log.specs.Senders.{sender_in, senders}
use Rattle.cacao_view_log.specs.Texts.{record_text}
use Rattle.cacao_view_log.specs.declared.form.Form.{Form}
use Rattle.cacao_view_log.specs.declared.sender.Sender.{Sender}

-- the record is that of the entry
pub record IsEntryOf (r : Record) (entry : List ℕ) : Type 0 where
  pub reads : record_of entry ≡ Some r
  pub is : entry ≡ layout r

-- why a record that may come next was not taken
abbrev pub RefusesRecord : View → Record → ReportError → Type 0
RefusesRecord flow r (Damaged place) = ⊥
RefusesRecord flow r TooManyTasks = MakesTooMany flow r
RefusesRecord flow r Memory = ⊤

-- who sent or asked what is to be told of, by what was shown before; it stands at a step
abbrev pub IsStepBy : Shown → Option Sender → List ℕ → Type 0
IsStepBy before None step = ⊤
IsStepBy before (Some sender) step = step ≡ key_of before sender.task

-- what is put of it among members
abbrev pub agent_put : Option Sender → Members → Members
agent_put None ms = ms
agent_put (Some sender) ms = put (codes "agent") (whole_data sender.agent) ms

abbrev pub sender_put : Option Sender → List ℕ → Members → Members
sender_put None step ms = ms
sender_put (Some sender) step ms = put (codes "task") (whole_data sender.task) (put (codes "step") (string step) ms)

-- the record of an entry was taken, and told, and its sender was noted
pub record TellsEntry (form : Form) (old : View) (texts : List (List ℕ)) (sent : List Sender) (item : List ℕ) (new : View)
    (more : List (List ℕ)) (later : List Sender) : Type 0 where
  pub takes : TakesEntry old item new
  pub more_is : more ≡ texts ++ record_text form old.seen.run old.seen sent old.count takes.r ∷ []
  pub later_is : later ≡ sent ++ sender_in takes.r

-- the flow after the records of these entries, the texts that tell them, and who sent and asked
pub record IsLogged (form : Form) (given : Given) (run : ℕ) (items : List (List ℕ)) (flow : View) (texts : List (List ℕ))
    (sent : List Sender) : Type 0 where
  pub replayed : IsReplayed given run items flow
  pub records : List Record
  pub ranges : AllByRecursion InRange records
  pub are : items ≡ entries_of records
  pub told : AreTold form given run records texts
  pub sent_are : sent ≡ senders records

-- the entries are the records of a run that stands so, and the texts tell them
pub record TellsFlow (form : Form) (entries : List (List ℕ)) (flow : View) (texts : List (List ℕ)) : Type 0 where
  pub records : List Record
  pub tells : TellsRun entries records flow.seen
  pub count : flow.count ≡ length records
  pub told : AreTold form flow.seen.given flow.seen.run records texts

-- the entry began the flow, and the texts tell its record
pub record BeginsLog (form : Form) (entry : List ℕ) (texts : List (List ℕ)) (sent : List Sender) (flow : View) : Type 0 where
  pub begun : HasBegun entry flow
  pub logged : IsLogged form flow.seen.given flow.seen.run (entry ∷ []) flow texts sent
