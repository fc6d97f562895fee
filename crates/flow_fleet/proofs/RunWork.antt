-- What holds of a run's engine behind a record that was appended, and behind a command that was put again.
use Rattle.std.proofs.Common.{◌≡◌, ◌≢◌, ℕ, ◌≤◌, true, List, [], ◌∷◌, length, sym, ◌∙◌, subst, ap, arith, length-append}
use Rattle.std.specs.Prelude.{Some, Result, Ok, Err, IfErr, OnOk}
use Rattle.cacao_site.specs.Sound.{IsSound}
use Rattle.cacao_site.specs.View.{ClockView, SiteView}
use Rattle.cacao_site.specs.declared.parcel.Parcel.{Parcel}
use Rattle.run_records.specs.Ranges.{last_moment}
use Rattle.run_records.specs.declared.record.Record.{Record}
use Rattle.run_records.specs.declared.record.Record.TheVariants as entry
use Rattle.flow_core_rules.specs.Changes.{is_in_time, moment_of}
use Rattle.flow_engine_history.specs.HistoryCalls.{Is}
use Rattle.flow_engine_history.specs.HistoryView.{HistoryView}
use Rattle.flow_engine.specs.EngineCalls.{Appends, IsBeginning, IsReply, Sends}
use Rattle.flow_engine.specs.EngineView.{EngineView}
use Rattle.flow_engine.specs.OpenIssues.{IsNextPut, without_ended}
use Rattle.flow_world_steps.specs.Sides.{AllPut, IsEngine}
use Rattle.flow_world_steps.specs.Worlds.{looked}
use Rattle.flow_world_steps.proofs.Adding.{begins_now, replies_now}
use Rattle.flow_world_steps.proofs.AllPuts.{all_stay_put}
use Rattle.flow_world_steps.proofs.Timely.{in_time_after}
use Rattle.flow_world_parts.specs.Leads.{IsAtWork}
use Rattle.flow_world_parts.proofs.MoveSteps.{at_work_after}
use Rattle.flow_fleet_laws.specs.Views.{seen_from}
use Rattle.flow_fleet_steps.specs.declared.error.FleetError.{FleetError}
use Rattle.flow_fleet_steps.specs.declared.error.FleetError.TheVariants as error
use Rattle.flow_fleet.specs.Leads.{MayResend, RunDid, RunRefuses, same_turn}
use Rattle.flow_fleet.proofs.RunCalls.{resent}
use Rattle.flow_fleet.proofs.RunSteps.{wants}

-- ---- behind a Begin

module _ (place now : ℕ) (so mid : SiteView) (v w : EngineView) (is : Appends v w (IsBeginning v.history now) (seen_from place so) (seen_from place mid)) where
  pub begun_work : now ≡ so.clock.now → now ≤ last_moment → IsEngine w (seen_from place mid) → IsAtWork w (seen_from place mid)
  begun_work at to engine = record {
    up = record { has_file = record { engine = engine; whole = ap (λ (h : HistoryView). h.broken) is.adds.view }; begun = some };
    in_time = subst (λ (n : ℕ). is_in_time w.history.seen n ≡ true) (at ∙ sym (ap (λ (c : ClockView). c.now) is.adds.offers.file.rest.clock))
        (in_time_after v w (IsBeginning v.history now) now (seen_from place so) (seen_from place mid) is (begins_now v.history now is.adds.offers.comes.next is.adds.offers.comes.is) to);
  }
    where
      some : w.history.records ≢ []
      some none =
          let long = ap (λ (l : List Record). length l) (sym none ∙ ap (λ (h : HistoryView). h.records) is.adds.view) in
          absurd (omega (arith, long, length-append v.history.records (is.adds.offers.comes.next ∷ [])))

  -- no command was put
  pub begun_puts : v.puts ≡ [] → w.puts ≡ []
  begun_puts none = is.puts ∙ ap (λ (r : Record). without_ended v.puts r) is.adds.offers.comes.is.is ∙ none

-- ---- behind an Expire or a Reply

pub expired_work : (place issue now : ℕ) (so mid : SiteView) (v w : EngineView) → now ≡ so.clock.now → Appends v w (Is (entry.Expire issue now)) (seen_from place so) (seen_from place mid)
    → IsAtWork v (seen_from place so) → IsEngine w (seen_from place mid) → IsAtWork w (seen_from place mid)
expired_work place issue now so mid v w at is work engine =
    at_work_after (Is (entry.Expire issue now)) (seen_from place so) (seen_from place mid) v w is work engine (ap moment_of is.adds.offers.comes.is ∙ at)

pub replied_work : (place now : ℕ) (parcel : Parcel) (so mid : SiteView) (v w : EngineView) → now ≡ so.clock.now → Appends v w (IsReply v.history parcel now) (seen_from place so) (seen_from place mid)
    → IsAtWork v (seen_from place so) → IsEngine w (seen_from place mid) → IsAtWork w (seen_from place mid)
replied_work place now parcel so mid v w at is work engine =
    at_work_after (IsReply v.history parcel now) (seen_from place so) (seen_from place mid) v w is work engine (replies_now v.history parcel now is.adds.offers.comes.next is.adds.offers.comes.is ∙ at)

-- ---- behind a put

pub sent_work : (place issue now : ℕ) (so sn : SiteView) (v w : EngineView) → Sends v w issue now (seen_from place so) (seen_from place sn) → IsAtWork v (seen_from place so) → IsEngine w (seen_from place sn)
    → IsAtWork w (seen_from place sn)
sent_work place issue now so sn v w is work engine =
    let same : w.history ≡ v.history = ap (λ (x : EngineView). x.history) is.view in
    record {
      up = record { has_file = record { engine = engine; whole = ap (λ (h : HistoryView). h.broken) same ∙ is.whole }; begun = λ none. work.up.begun (sym (ap (λ (h : HistoryView). h.records) same) ∙ none) };
      in_time = subst (λ (n : ℕ). is_in_time w.history.seen n ≡ true) (sym is.put.time.now) (subst (λ (h : HistoryView). is_in_time h.seen so.clock.now ≡ true) (sym same) work.in_time);
    }

-- ---- a resend: the command was put, or memory was wanted

module _ (place moment issue now : ℕ) (so sn : SiteView) (v w : EngineView) where
  pub resend_did : {T : Type 0} (result : Result T FleetError) → IsSound so → IsAtWork v (seen_from place so) → IsNextPut v.puts (Some (moment, issue)) → moment ≤ now → now ≡ so.clock.now
      → OnOk result (Sends v w issue now (seen_from place so) (seen_from place sn)) → OnOk result (IsAtWork w (seen_from place sn)) → IfErr result (λ (why : FleetError). (why ≡ error.Memory) × (w ≡ v) × (sn ≡ so))
      → RunDid result (MayResend place) 0 same_turn place so v looked sn w
  resend_did (Ok done) sound work next come is sends after refused =
      resent place so v sound moment issue sn w work next (subst (λ (n : ℕ). moment ≤ n) is come) (subst (λ (n : ℕ). Sends v w issue n (seen_from place so) (seen_from place sn)) is sends) after.up.has_file.engine
  resend_did (Err why) sound work next come is sends after refused =
      subst (λ (e : FleetError). RunRefuses (MayResend place) e place so v looked sn) (sym refused.0)
      (subst (λ (s : SiteView). RunRefuses (MayResend place) error.Memory place so v looked s) (sym refused.2) (wants (MayResend place) place so v looked tt))

  -- all that were put stay put
  pub resend_put : {T : Type 0} (result : Result T FleetError) → OnOk result (Sends v w issue now (seen_from place so) (seen_from place sn)) → AllPut v → OnOk result (AllPut w)
  resend_put (Ok done) sends put = all_stay_put v w issue now (seen_from place so) (seen_from place sn) sends put
  resend_put (Err why) sends put = tt
