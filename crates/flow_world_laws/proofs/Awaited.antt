-- An issue that waits by the records of a history waits in what it shows.
use Rattle.std.proofs.Common.{◌≡◌, ◌≢◌, ℕ, ◌==◌, Bool, true, false, cond, List, [], ◌∷◌, Option, Some, None, refl, sym, ap, subst, ◌∙◌, eq-eqb}
use Rattle.std.specs.Prelude.{Contains, slice_get}
use Rattle.std.proofs.lemmas.Bool.{false≢true}
use Rattle.std.proofs.lemmas.List.Elements.{All-contains}
use Rattle.std.proofs.lemmas.Option.{none-some}
use Rattle.cacao_site.specs.declared.parcel.Parcel.{Parcel}
use Rattle.cacao_check.proofs.LawLemmas.{sound_gives}
use Rattle.run_records.specs.declared.record.Record.{Record}
use Rattle.run_records.specs.declared.record.Record.TheVariants as entry
use Rattle.flow_core_rules.specs.declared.issues.Issue.{Issue}
use Rattle.flow_core_rules.specs.Changes.{is_waiting}
use Rattle.flow_core_rules.specs.Laws.{HasEnd, HasRecords, ended_by, record_of_issue}
use Rattle.flow_core_rules.specs.Runnable.{IsRunnable}
use Rattle.flow_core_rules.specs.State.{Shown}
use Rattle.flow_core_rules.proofs.IssueLemmas.{issues_have_records}
use Rattle.flow_core_setup.proofs.SetupRunnable.{accepted_is_runnable}
use Rattle.flow_engine_history.specs.HistoryView.{HistoryView}
use Rattle.flow_engine_history.specs.Histories.{IsHistory, IsSoFar}
use Rattle.flow_engine.specs.EngineCalls.{IsFromFilter, IsWaiting}
use Rattle.flow_laws.specs.Held.{HasOpenSend}
use Rattle.flow_laws.specs.Journals.{IsOpen, run_of}
use Rattle.flow_laws.proofs.Basics.{same_some}
use Rattle.flow_world_steps.proofs.Records.{run_known}
use Rattle.flow_world_laws.proofs.Known.{issue_shown}

-- the records of an issue that is shown
has_records_of : (h : HistoryView) (n : ℕ) (it : Issue) → IsHistory h → slice_get h.seen.lists.issues n ≡ Some it → HasRecords h.records n it
has_records_of h n it history there = by h.records history.so_far
  where
    runnable : IsRunnable h.seen.given
    runnable = accepted_is_runnable sound_gives h.seen.given.texts h.seen.given.bind h.seen.given history.accepted

    by : (rs : List Record) → IsSoFar rs h.seen → HasRecords rs n it
    by [] is = absurd (none-some it (sym (ap (λ (s : Shown). slice_get s.lists.issues n) is) ∙ there))
    by (r ∷ rs) is =
        issues_have_records h.seen.given h.seen.run (r ∷ rs) is.state n it runnable is.leads (sym (ap (λ (s : Shown). slice_get s.lists.issues n) is.is) ∙ there)

-- the agent of an issue that was sent
agent_in : Record → ℕ
agent_in (entry.Send task issue agent moment bytes) = agent
agent_in other = 0

is_send : Record → Bool
is_send (entry.Send task issue agent moment bytes) = true
is_send other = false

sent_to : (one : Issue) (task issue agent moment : ℕ) (bytes : List ℕ) → record_of_issue issue one ≡ entry.Send task issue agent moment bytes → (one.agent ≡ agent) × (one.agent ≢ 0)
unfolding agent_in is_send
sent_to one task issue agent moment bytes e = by (one.agent == 0) refl e
  where
    by : (b : Bool) → (one.agent == 0) ≡ b → cond b (entry.Ask one.task issue one.moment one.bytes) (entry.Send one.task issue one.agent one.moment one.bytes) ≡ entry.Send task issue agent moment bytes
        → (one.agent ≡ agent) × (one.agent ≢ 0)
    by true is h = absurd (let no : false ≡ true = ap is_send h in cc)
    by false is h = (ap agent_in h, λ z. let t : (one.agent == 0) ≡ true = eq-eqb one.agent 0 z in false≢true (sym is ∙ t))

-- one that no record ends waits
still_waits : (h : HistoryView) (n : ℕ) (it : Issue) → HasRecords h.records n it → IsOpen h.records n → is_waiting it.phase ≡ true
still_waits h n it has is_open = by (is_waiting it.phase) refl
  where
    by : (b : Bool) → is_waiting it.phase ≡ b → is_waiting it.phase ≡ true
    by true e = e
    by false e =
        let end : HasEnd h.records n it.phase = has.ended e in
        absurd (All-contains (λ (r : Record). ¬ (ended_by r ≡ Some n)) h.records end.last is_open end.among end.issue_is)

pub from_filter : (h : HistoryView) (parcel : Parcel) (command : List ℕ) → IsHistory h → h.records ≢ [] → parcel.back ≡ true → HasOpenSend h.records (record parcel { bytes = command })
    → IsFromFilter h parcel
from_filter h parcel command history begun back is_open =
    let send : Record = entry.Send is_open.sent.task parcel.issue parcel.agent is_open.sent.moment command in
    let shown = issue_shown h parcel.issue send history is_open.sent.has refl in
    let to = sent_to shown.one is_open.sent.task parcel.issue parcel.agent is_open.sent.moment command shown.record_is in
    let waiting : IsWaiting h.seen parcel.issue shown.one = record {
      there = shown.there;
      waits = still_waits h parcel.issue shown.one (has_records_of h parcel.issue shown.one history shown.there) is_open.is_open;
      of_filter = to.1;
    } in
    record {
      back = back;
      of_run = same_some (sym is_open.of_run ∙ run_known h history begun);
      it = shown.one;
      waiting = waiting;
      of_agent = sym to.0;
    }
