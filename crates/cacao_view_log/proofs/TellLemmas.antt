-- The record of one entry, told or refused.
use Rattle.std.proofs.Common.{◌≡◌, ℕ, ◌<◌, List, [], ◌∷◌, ◌++◌, length, Option, Some, None, refl, ap, sym, subst, ◌∙◌}
use Rattle.std.specs.Prelude.{option_and_then, option_map, slice_get, unwrap_or}
use Rattle.std.specs.Option.{option_map_or}
use Rattle.std.proofs.lemmas.Option.{none-some}
use Rattle.run_records.specs.Layout.{layout}
use Rattle.run_records.specs.Ranges.{InRange}
use Rattle.run_records.specs.Reading.{record_of}
use Rattle.run_records.specs.declared.record.Record.{Record}
use Rattle.run_records.specs.declared.record.Record.TheVariants as entry
use Rattle.flow_core_rules.specs.Givens.{Given, step_at}
use Rattle.flow_core_rules.specs.Lines.{key_of}
use Rattle.flow_core_rules.specs.State.{Shown}
use Rattle.flow_core_rules.specs.declared.tasks.Task.{Task}
use Rattle.flow_core.specs.TakenRecords.{Took}
use Rattle.flow_core.specs.Views.{View, taken}
use Rattle.flow_engine_history.specs.LineParts.{IsKeyFor}
use Rattle.flow_engine_history.specs.Replays.{CannotFollow}
use Rattle.flow_engine_history.proofs.HistoryLemmas.{get_within}
use Rattle.flow_engine_reports.specs.Replaying.{RefusesNext}
use Rattle.flow_engine_reports.specs.declared.error.ReportError.{ReportError}
use Rattle.flow_engine_reports.specs.declared.error.ReportError.TheVariants.{Damaged, TooManyTasks, Memory}
use Rattle.cacao_view_log.specs.Senders.{sender_in, sender_task, step_key}
use Rattle.cacao_view_log.specs.Telling.{IsStepBy, RefusesRecord, TellsEntry}
use Rattle.cacao_view_log.specs.Texts.{record_text}
use Rattle.cacao_view_log.specs.declared.form.Form.{Form}
use Rattle.cacao_view_log.specs.declared.sender.Sender.{Sender}
use Rattle.cacao_view_log.proofs.LogLemmas.{inner}

-- ---- where a task stands

abbrev stand_in : Option Task → Option (ℕ × ℕ)
stand_in = option_map {U = ℕ × ℕ} (λ (one : Task). (one.book, one.step))

there_by : (tasks : List Task) (t : ℕ) (o : Option Task) (stand : ℕ × ℕ) → slice_get tasks t ≡ o → stand_in o ≡ Some stand → t < length tasks
there_by tasks t None stand e h = absurd (none-some stand h)
there_by tasks t (Some task) stand e h = get_within tasks t task e

pub task_there : (tasks : List Task) (t : ℕ) (stand : ℕ × ℕ) → stand_in (slice_get tasks t) ≡ Some stand → t < length tasks
task_there tasks t stand h = there_by tasks t (slice_get tasks t) stand refl h

key_by : (given : Given) (o : Option Task) → stand_in o ≡ None → [] ≡ unwrap_or (option_map (λ step. step.key) (option_and_then (λ (task : Task). step_at given task.book task.step) o)) []
key_by given None h = refl
key_by given (Some task) h = absurd (none-some _ (sym h))

pub no_key : (s : Shown) (t : ℕ) → stand_in (slice_get s.lists.tasks t) ≡ None → [] ≡ key_of s t
no_key s t h = key_by s.given (slice_get s.lists.tasks t) h

-- the key of the step of a record is what its line asks
pub key_for : (before : Shown) (sent : List Sender) (r : Record) (key : List ℕ) → key ≡ step_key before sent r → IsKeyFor before r key
key_for before sent (entry.Walk task moment) key e = e
key_for before sent (entry.Begin run moment books bind) key e = tt
key_for before sent (entry.Send task issue agent moment bytes) key e = tt
key_for before sent (entry.Reply issue moment status rule text) key e = tt
key_for before sent (entry.Expire issue moment) key e = tt
key_for before sent (entry.Upgrade version moment) key e = tt
key_for before sent (entry.Ask task issue moment bytes) key e = tt
key_for before sent (entry.Told issue moment status text) key e = tt

-- who sent or asked what is told of, and where that task stands
step_at_sender : (before : Shown) (o : Option Sender) (step : List ℕ) → step ≡ option_map_or (key_of before) (sender_task o) [] → IsStepBy before o step
step_at_sender before None step e = tt
step_at_sender before (Some sender) step e = e

pub step_by : (before : Shown) (sender : Option Sender) (sent : List Sender) (issue : ℕ) (step : List ℕ) → sender ≡ slice_get sent issue → step ≡ option_map_or (key_of before) (sender_task (slice_get sent issue)) []
    → IsStepBy before sender step
step_by before sender sent issue step by e = subst (λ (o : Option Sender). IsStepBy before o step) (sym by) (step_at_sender before (slice_get sent issue) step e)

-- ---- an entry that is taken

pub tells_entry : (form : Form) (v w : View) (texts more : List (List ℕ)) (sent later : List Sender) (item text : List ℕ) (r : Record) (n : ℕ) → InRange r → item ≡ layout r → Took v r w → n ≡ v.count
    → text ≡ record_text form v.seen.run v.seen sent n r → more ≡ texts ++ text ∷ [] → later ≡ sent ++ sender_in r → TellsEntry form v texts sent item w more later
tells_entry form v w texts more sent later item text r n in_range is took count told pushed noted = record {
  takes = record { r = r; in_range = in_range; is = is; edits = took.edits; takes = took.takes; new_is = took.new_is };
  more_is = pushed ∙ ap (λ (x : List ℕ). texts ++ x ∷ []) (told ∙ ap (λ (k : ℕ). record_text form v.seen.run v.seen sent k r) count);
  later_is = noted;
}

pub pushed_first : (old more : List (List ℕ)) (text said : List ℕ) → old ≡ [] → more ≡ old ++ text ∷ [] → text ≡ said → more ≡ said ∷ []
pushed_first old more text said none pushed is = pushed ∙ ap (λ (l : List (List ℕ)). l ++ text ∷ []) none ∙ ap (λ (x : List ℕ). x ∷ []) is

-- ---- one that is not

pub cannot_follow : (v : View) (item : List ℕ) (r : Record) → record_of item ≡ Some r → taken v r ≡ None → CannotFollow v item
cannot_follow v item r reads bad q e = subst (λ (x : Record). taken v x ≡ None) (inner r q (sym reads ∙ e)) bad

pub refuses_next : (v : View) (item : List ℕ) (r : Record) (error : ReportError) → record_of item ≡ Some r → RefusesRecord v r error → RefusesNext v item error
refuses_next v item r (Damaged place) reads h = absurd h
refuses_next v item r TooManyTasks reads h = (r, reads, h)
refuses_next v item r Memory reads h = tt
