-- The first record of a run.
use Rattle.std.proofs.Common.{◌≤◌, List, [], ◌∷◌, length, subst}
use Rattle.cacao_check.specs.Fits.{FitsKind}
use Rattle.run_records.specs.declared.record.Record.{Record}
use Rattle.flow_core_rules.specs.Accepted.{Accepted, IsRunOf}
use Rattle.flow_core_rules.specs.Runs.{begin_of}
use Rattle.flow_core_rules.specs.State.{Shown}
use Rattle.flow_core_rules.proofs.RunLemmas.{list_heads}
use Rattle.flow_core.specs.TakenRecords as flows
use Rattle.flow_core.specs.TakenRecords.{BeginsNone, BeginsRun}
use Rattle.flow_core.specs.Views.{View}
use Rattle.flow_core.proofs.BeginLemmas.{begun_taken}
use Rattle.flow_laws.specs.Journals.{AreAccepted, IsJournalRun}
use Rattle.flow_audit.specs.Breaks.{most_tasks}
use Rattle.flow_audit.specs.Parts.{HasTaken}

-- a flow of accepted playbooks that took these records
pub taken_as : (first : Record) (others : List Record) (w : View) → Accepted AreAccepted FitsKind w.seen.given.texts w.seen.given.bind w.seen.given → flows.HasTaken (first ∷ others) w
    → length w.seen.lists.tasks ≤ most_tasks → HasTaken (first ∷ others) w
taken_as first others w accepted h few = record {
  state = h.so_far.state;
  accepted = accepted;
  leads = h.so_far.leads;
  is = h.so_far.is;
  count = h.count;
  few = subst (λ (s : Shown). length s.lists.tasks ≤ most_tasks) h.so_far.is few;
}

-- the flow of the first record
pub begun_flow : (r : Record) (w : View) → flows.HasBegun r w → length w.seen.lists.tasks ≤ most_tasks → HasTaken (r ∷ []) w
begun_flow r w h few = taken_as r [] w h.begins.accepted (begun_taken r w h) few

begins : (r : Record) (run : IsRunOf AreAccepted FitsKind (r ∷ [])) → BeginsRun r run.given run.run
begins r run =
    let l = run.leads in
    record { moment = l.now; is = (list_heads r (begin_of run.given run.run l.now) [] l.others l.records_are).0; in_time = l.in_time; accepted = run.accepted }

-- a record that begins none is no run
pub no_run : (r : Record) → BeginsNone r → ¬ IsJournalRun (r ∷ [])
no_run r none run = none run.given run.run (begins r run)
