-- What a record that is appended needs at the engine's end.
use Rattle.std.proofs.Common.{◌≡◌, ◌≢◌, ℕ, Bool, true, false, cond, List, [], ◌∷◌, ◌++◌, refl, sym, ◌∙◌, subst, ap}
use Rattle.std.specs.Prelude.{Contains, Some, ◌==◌}
use Rattle.std.proofs.lemmas.Bool.{eqb-true}
use Rattle.std.proofs.lemmas.List.Elements.{Contains-append_left}
use Rattle.cacao_check.proofs.LawLemmas.{sound_gives}
use Rattle.cacao_site.specs.View.{SiteView}
use Rattle.cacao_site.specs.declared.parcel.Parcel.{Parcel}
use Rattle.oc2_msg.specs.declared.answers.Answer.{Answer}
use Rattle.run_records.specs.declared.record.Record.{Record}
use Rattle.run_records.specs.declared.record.Record.TheVariants as entry
use Rattle.flow_core_rules.specs.Laws.{record_of_issue}
use Rattle.flow_core_rules.specs.Changes.{moment_of}
use Rattle.flow_core_rules.specs.Runs.{shown_after}
use Rattle.flow_core_rules.specs.declared.issues.Issue.{Issue}
use Rattle.flow_core_rules.proofs.IssueLemmas.{issues_have_records}
use Rattle.flow_core_setup.proofs.SetupRunnable.{accepted_is_runnable}
use Rattle.flow_laws.specs.Held.{HasOpenSend}
use Rattle.flow_laws.specs.Journals.{IsJournalRun, IsSent, run_of}
use Rattle.flow_laws.proofs.Basics.{run_of-more}
use Rattle.flow_engine_history.specs.Histories.{IsHistory, IsSoFar}
use Rattle.flow_engine_history.specs.HistoryCalls.{MayCome}
use Rattle.flow_engine_history.specs.HistoryView.{HistoryView, flow_of}
use Rattle.flow_engine_history.proofs.SoFarLemmas.{so_far_more}
use Rattle.flow_engine.specs.EngineCalls.{IsFromFilter, IsOpen, IsReply, command_of}
use Rattle.flow_engine.specs.EngineView.{EngineView}
use Rattle.flow_engine.proofs.SendLemmas.{is_open}
use Rattle.flow_world_steps.specs.Sides.{IsUp}
use Rattle.flow_world_steps.specs.Steps.{IsAddressed}
use Rattle.flow_world_steps.proofs.Records.{run_known}
use Rattle.oc2_wire_laws.specs.Ends.{IsOfReplies}

-- ---- records

-- with a record that may come next they are a run again
pub is_run_more : (h : HistoryView) (IsNext : Record → Type 0) → IsHistory h → (comes : MayCome h IsNext) → IsJournalRun (h.records ++ comes.next ∷ [])
is_run_more h IsNext history comes = by h.records (so_far_more h.records (flow_of h) comes.next comes.edits refl history.so_far comes.takes)
  where
    by : (records : List Record) → IsSoFar (records ++ comes.next ∷ []) (shown_after (moment_of comes.next) comes.edits h.seen) → IsJournalRun (records ++ comes.next ∷ [])
    by [] is = record { given = h.seen.given; run = h.seen.run; state = is.state; accepted = history.accepted; leads = is.leads }
    by (first ∷ others) is = record { given = h.seen.given; run = h.seen.run; state = is.state; accepted = history.accepted; leads = is.leads }

-- ---- replies

-- a record that is no Reply
abbrev IsNoReply : Record → Type 0
IsNoReply next = (issue moment status rule : ℕ) (text : List ℕ) → next ≡ entry.Reply issue moment status rule text → ⊥

pub of_none : (got : List Parcel) (records : List Record) (next : Record) → IsNoReply next → IsOfReplies got records next
of_none got records (entry.Begin a b c d) other = tt
of_none got records (entry.Walk a b) other = tt
of_none got records (entry.Send a b c d e) other = tt
of_none got records (entry.Reply issue moment status rule text) other = absurd (other issue moment status rule text refl)
of_none got records (entry.Expire a b) other = tt
of_none got records (entry.Upgrade a b) other = tt
of_none got records (entry.Ask a b c d) other = tt
of_none got records (entry.Told a b c d) other = tt

not_false : (a : ℕ) → a ≢ 0 → (b : Bool) → (a == 0) ≡ b → b ≡ false
not_false a ne true e = absurd (ne (eqb-true a 0 e))
not_false a ne false e = refl

-- the record of an issue of a filter is its Send
send_of : (issue : ℕ) (it : Issue) → it.agent ≢ 0 → record_of_issue issue it ≡ entry.Send it.task issue it.agent it.moment it.bytes
send_of issue it ne =
    ap (λ (b : Bool). cond b (entry.Ask it.task issue it.moment it.bytes) (entry.Send it.task issue it.agent it.moment it.bytes)) (not_false it.agent ne (it.agent == 0) refl)

pub sent_of : (h : HistoryView) (issue : ℕ) (it : Issue) → IsOpen h issue it → IsSent h.records issue it.agent it.bytes
sent_of h issue it is = record {
  task = it.task;
  moment = it.moment;
  has = subst (λ (r : Record). Contains h.records r) (send_of issue it is.waiting.of_filter) is.has.issued;
}

-- the command of an open issue has an open Send
pub open_send : (v : EngineView) (site : SiteView) (issue : ℕ) (it : Issue) → IsUp v site → IsOpen v.history issue it → HasOpenSend v.history.records (command_of v.history issue it)
open_send v site issue it up is = record {
  of_run = run_known v.history up.has_file.engine.history up.begun;
  sent = sent_of v.history issue it is;
  is_open = is.has.waits is.waiting.waits;
}

run_stays : (records : List Record) (next : Record) (run : ℕ) → records ≢ [] → run_of records ≡ Some run → run_of (records ++ next ∷ []) ≡ Some run
run_stays [] next run some of = absurd (some refl)
run_stays (first ∷ others) next run some of = run_of-more first others next ∙ of

same_bytes : (read : Answer) → ◌≡◌ {A = Answer} read (record { status = read.status; rule = read.rule; text = read.text })
same_bytes read = refl

-- a Reply of a parcel in hand is of one that was got
pub of_reply : (got : List Parcel) (v : EngineView) (site : SiteView) (parcel : Parcel) (moment : ℕ) (next : Record) → IsUp v site → Contains got parcel → IsAddressed parcel
    → IsReply v.history parcel moment next → IsOfReplies got (v.history.records ++ next ∷ []) next
of_reply got v site parcel moment next up has addressed reply =
    subst (λ (r : Record). IsOfReplies got (v.history.records ++ next ∷ []) r) (sym reply.is) (record {
      parcel = parcel;
      has = has;
      back = from.back;
      is_agent = (addressed.low, addressed.high);
      of_run = run_stays v.history.records next parcel.run up.begun (run_known v.history up.has_file.engine.history up.begun ∙ ap Some (sym from.of_run));
      of_issue = refl;
      bytes = from.it.bytes;
      sent = record {
        task = sent.task;
        moment = sent.moment;
        has = Contains-append_left v.history.records (next ∷ []) _ (subst (λ (n : ℕ). Contains v.history.records (entry.Send sent.task parcel.issue n sent.moment from.it.bytes)) (sym from.of_agent) sent.has);
      };
      reads = reply.to.read_is.reads ∙ ap Some (same_bytes reply.read);
    })
  where
    from : IsFromFilter v.history parcel
    from = reply.to.sent_back

    sent : IsSent v.history.records parcel.issue from.it.agent from.it.bytes
    sent = sent_of v.history parcel.issue from.it
        (is_open issues_have_records (accepted_is_runnable sound_gives) v.history parcel.issue from.it up.has_file.engine.history from.waiting)
