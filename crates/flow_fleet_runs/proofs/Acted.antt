-- Each Send of each run of a fleet that lost no parcel has its act and its Reply.
use Rattle.std.proofs.Common.{◌≡◌, ◌≢◌, ℕ, suc, ◌-◌, ◌≤◌, List, [], length, refl, sym, ◌∙◌, subst, ap, arith, IsTrue}
use Rattle.std.specs.Prelude.{Some, IsSome, Contains, slice_get}
use Rattle.std.proofs.lemmas.List.{length-map}
use Rattle.cacao_site.specs.Counts.{DidNotRise}
use Rattle.cacao_site.specs.DiskCalls.{IsLeft}
use Rattle.cacao_site.specs.Sound.{IsSound}
use Rattle.cacao_site.specs.View.{CountsView, LinkView, SiteView}
use Rattle.run_records.specs.declared.act.Act.{Act}
use Rattle.run_records.specs.declared.record.Record.{Record}
use Rattle.run_records.specs.declared.record.Record.TheVariants as entry
use Rattle.flow_core_rules.specs.Changes.{outcome}
use Rattle.flow_core_rules.specs.Givens.{Given}
use Rattle.flow_engine.specs.EngineView.{EngineView}
use Rattle.flow_laws.specs.Acts.{HasReply, ReadsAs}
use Rattle.flow_laws.specs.Good.{AgreeOn, IsGood}
use Rattle.flow_laws.specs.Images.{IsActs, IsAgent, puts_to}
use Rattle.flow_laws.specs.Journals.{IsSent, run_of}
use Rattle.flow_laws.proofs.OneList.{same_acts, same_records}
use Rattle.slpf_actuator.specs.ActuatorView.{ActuatorView}
use Rattle.flow_world_steps.specs.Complete.{HasActed}
use Rattle.flow_world_steps.specs.Sides.{FiltersReady, IsFilter, IsWhole}
use Rattle.flow_world_steps.specs.Worlds.{IsGoing, World}
use Rattle.flow_world_steps.proofs.FilterCalls.{has_acts}
use Rattle.flow_world_steps.proofs.Records.{has_records, run_known}
use Rattle.flow_world_laws.specs.Answered.{HasActAndReply}
use Rattle.flow_world_laws.proofs.Acted.{not_empty}
use Rattle.flow_world_laws.proofs.Known.{issue_shown, one_record}
use Rattle.flow_fleet_laws.specs.Views.{seen_from}
use Rattle.flow_fleet_laws.proofs.Seen.{sound-seen}
use Rattle.flow_fleet_steps.specs.Openings.{AreFleetOpen, OpensJournals, Runs}
use Rattle.flow_fleet_steps.specs.Openings.OpensJournals.{nothing, and_then}
use Rattle.flow_fleet_steps.specs.Worlds.{FleetWorld, part}
use Rattle.flow_fleet_sums.proofs.Adding.{there_of}
use Rattle.flow_fleet_runs.specs.Complete.{EachEndedRunIsActedOn, EachFleetSendIsActedOn, LostNothing}
use Rattle.flow_fleet_runs.proofs.Complete.{fleets_complete}
use Rattle.flow_fleet_runs.proofs.Ends.{some_of}
use Rattle.flow_fleet_runs.proofs.Filters.{filters_seen, steps_sure}
use Rattle.flow_fleet_runs.proofs.Standing.{steps_stand}
use Rattle.flow_fleet_runs.proofs.Lossless.{fleet_has_all, run_at}

-- ---- what good images tell

-- every image is good, and the files stand for what is in view
record IsKept (w : World) : Type 0 where
  pub told : IsTrue w.site.disk.told
  pub good : IsGood w.site w.site.disk.beat
  pub sound : IsSound w.site
  pub whole : IsWhole w.engine w.site
  pub filters : FiltersReady w.filters w.site
  pub all : length w.filters ≡ 16

module _ (w : World) (kept : IsKept w) where
  images : ℕ → List ℕ
  images file = (kept.sound.images file w.site.disk.beat kept.told (omega arith)).0

  left : (file : ℕ) → IsLeft w.site.disk file w.site.disk.beat (images file)
  unfolding images
  left file = (kept.sound.images file w.site.disk.beat kept.told (omega arith)).1

  good : AgreeOn images (puts_to w.site w.site.disk.beat)
  good = kept.good.each images (λ file le. left file)

  one : good.records ≡ w.engine.history.records
  one = same_records (images 0) good.records w.engine.history.records good.are_records (has_records w.engine w.site kept.whole kept.told (images 0) (left 0))

  acts_are : (agent : ℕ) (is : IsAgent agent) (v : ActuatorView) → slice_get w.filters (agent - 1) ≡ Some v → good.acts agent ≡ v.acts
  acts_are agent is v there =
      let number : suc (agent - 1) ≡ agent = omega (arith, is.0) in
      let filter : IsFilter v agent w.site = subst (λ (n : ℕ). IsFilter v n w.site) number (kept.filters.each (agent - 1) v there) in
      let own : IsActs (images agent) v.acts = has_acts v agent w.site filter kept.told (images agent)
      (subst (λ (n : ℕ). IsLeft w.site.disk n w.site.disk.beat (images agent)) (sym filter.of_agent) (left agent)) in
      same_acts (images agent) (good.acts agent) v.acts (good.are_acts agent is) own

  reply_in : (agent run issue : ℕ) (acts : List Act) (P : List ℕ → Type 0) → good.acts agent ≡ acts → HasReply (good.acts agent) run issue P → HasReply acts run issue P
  reply_in agent run issue acts P e is = subst (λ (l : List Act). HasReply l run issue P) e is

  -- each Reply has its act
  reply_acted : (issue moment status rule : ℕ) (text : List ℕ) → Contains w.engine.history.records (entry.Reply issue moment status rule text) → HasActed w issue (ReadsAs status rule text)
  reply_acted issue moment status rule text has =
      let h = w.engine.history in
      let run_is : run_of good.records ≡ Some h.seen.run = ap run_of one ∙ run_known h kept.whole.engine.history (not_empty h.records _ has) in
      let r : Record = entry.Reply issue moment status rule text in
      let acted = good.agree.answers h.seen.run issue moment status rule text run_is (subst (λ (l : List Record). Contains l r) (sym one) has) in
      let filter = there_of w.filters (acted.agent - 1) (let low = acted.is_agent.0 in let high = acted.is_agent.1 in let all = kept.all in omega (arith, low, high, all)) in
      let acts : good.acts acted.agent ≡ filter.0.acts = acts_are acted.agent acted.is_agent filter.0 filter.1 in
      record {
        agent = acted.agent;
        low = acted.is_agent.0;
        high = acted.is_agent.1;
        bytes = acted.bytes;
        sent = subst (λ (l : List Record). IsSent l issue acted.agent acted.bytes) one acted.sent;
        v = filter.0;
        there = filter.1;
        reply = reply_in acted.agent h.seen.run issue filter.0.acts (ReadsAs status rule text) acts acted.reply;
      }

  -- an act of the run is on a Send to its agent
  act_sent : w.engine.history.records ≢ [] → (agent : ℕ) (is : IsAgent agent) (v : ActuatorView) → slice_get w.filters (agent - 1) ≡ Some v → (act : Act) → Contains v.acts act
      → act.run ≡ w.engine.history.seen.run → IsSent w.engine.history.records act.issue agent act.command
  act_sent some agent is v there act has of_run =
      let h = w.engine.history in
      let run_is : run_of good.records ≡ Some act.run = ap run_of one ∙ run_known h kept.whole.engine.history some ∙ ap Some (sym of_run) in
      subst (λ (l : List Record). IsSent l act.issue agent act.command) one
      (good.agree.acts_sent agent act is (subst (λ (l : List Act). Contains l act) (sym (acts_are agent is v there)) has) run_is)

-- ---- an opening leaves the link and the counts as they were

record SameLink (old new : SiteView) : Type 0 where
  pub link : new.link ≡ old.link
  pub counts : new.counts ≡ old.counts

journals_same : (runs : Runs) (start : SiteView) (many : ℕ) (site : SiteView) (engines : List EngineView) → OpensJournals runs start many site engines → SameLink start site
journals_same runs start many site engines nothing = record { link = refl; counts = refl }
journals_same runs start many site engines (and_then {n} {old} {new} {before} run given v was there is) =
    let first = journals_same runs start n old before was in
    record { link = is.opens.only.rest.link ∙ first.link; counts = is.opens.only.rest.counts ∙ first.counts }

opening_same : (runs : Runs) (old : SiteView) (w : FleetWorld) → AreFleetOpen runs old w.site w.engines w.filters → SameLink old w.site
opening_same runs old w files =
    let first = journals_same runs old (length runs) files.middle w.engines files.journals in
    record { link = files.others.rest.link ∙ first.link; counts = files.others.rest.counts ∙ first.counts }

-- ---- fields of a Send

agent_in : Record → ℕ
agent_in (entry.Send task issue agent moment bytes) = agent
agent_in other = 0

same_agent : (t m a u x y : ℕ) (issue : ℕ) (p q : List ℕ) → entry.Send t issue a m p ≡ entry.Send u issue x y q → a ≡ x
unfolding agent_in
same_agent t m a u x y issue p q e = ap agent_in e

bytes_in : Record → List ℕ
bytes_in (entry.Send task issue agent moment bytes) = bytes
bytes_in other = []

same_bytes : (t m a u x y : ℕ) (issue : ℕ) (p q : List ℕ) → entry.Send t issue a m p ≡ entry.Send u issue x y q → p ≡ q
unfolding bytes_in
same_bytes t m a u x y issue p q e = ap bytes_in e

-- ---- with its act

-- a Send and a Reply of its issue, where all is good
send_acted : (w : World) → IsKept w → (task issue agent moment : ℕ) (bytes : List ℕ) → Contains w.engine.history.records (entry.Send task issue agent moment bytes)
    → (at status rule : ℕ) (text : List ℕ) → Contains w.engine.history.records (entry.Reply issue at status rule text) → HasActAndReply w issue agent bytes
send_acted w kept task issue agent moment bytes send at status rule text has =
    let h = w.engine.history in
    let history = kept.whole.engine.history in
    let acted = reply_acted w kept issue at status rule text has in
    let one_send = one_record h issue (entry.Send acted.sent.task issue acted.agent acted.sent.moment acted.bytes) (entry.Send task issue agent moment bytes) history acted.sent.has send refl refl in
    let same : acted.agent ≡ agent = same_agent acted.sent.task acted.sent.moment acted.agent task agent moment issue acted.bytes bytes one_send in
    let act = acted.reply.act in
    let of_act : IsSent h.records act.issue acted.agent act.command =
    act_sent w kept (not_empty h.records _ send) acted.agent (acted.low, acted.high) acted.v acted.there act acted.reply.has acted.reply.of_run in
    let on : IsSent h.records issue acted.agent act.command = subst (λ (n : ℕ). IsSent h.records n acted.agent act.command) acted.reply.of_issue of_act in
    let other = one_record h issue (entry.Send on.task issue acted.agent on.moment act.command) (entry.Send task issue agent moment bytes) history on.has send refl refl in
    record {
      moment = at;
      status = status;
      rule = rule;
      text = text;
      has = has;
      low = subst (λ (n : ℕ). 1 ≤ n) same acted.low;
      high = subst (λ (n : ℕ). n ≤ 16) same acted.high;
      v = acted.v;
      there = subst (λ (n : ℕ). slice_get w.filters (n - 1) ≡ Some acted.v) same acted.there;
      reply = acted.reply;
      command = same_bytes on.task on.moment acted.agent task agent moment issue act.command bytes other;
    }

pub ended_run_is_acted_on : EachEndedRunIsActedOn
ended_run_is_acted_on runs most old new went going all place v w there empty here ended task issue agent moment bytes send =
    let a = went.start in
    let b = went.to in
    let same = opening_same runs old a went.files in
    let told_there : IsSome a.site.link.pending = subst (λ (l : LinkView). IsSome l.pending) (sym same.link) all.told in
    let at_end : DidNotRise old.counts.mishaps b.site.counts.mishaps = subst (λ (s : SiteView). DidNotRise old.counts.mishaps s.counts.mishaps) (sym went.to_is) all.still in
    let still_there : DidNotRise a.site.counts.mishaps b.site.counts.mishaps = subst (λ (c : CountsView). DidNotRise c.mishaps b.site.counts.mishaps) (sym same.counts) at_end in
    let lost : LostNothing runs most a b = record { are = all.are; begins = went.begins; steps = went.steps; still = still_there } in
    let sure = steps_sure a b runs most went.begins went.steps going in
    let few : length runs ≤ 16 = let few = all.are.few in let many = length-map runs (λ (r : ℕ × Given). r.0) in omega (arith, few, many) in
    let whole : IsWhole w (seen_from place b.site) = steps_stand a b runs most few went.begins went.steps going place w here in
    let shown = issue_shown w.history issue (entry.Send task issue agent moment bytes) whole.engine.history send refl in
    let replied = ((fleets_complete a b runs most lost told_there).has_reply place v w there here empty ended issue shown.one shown.there).replied in
    let agreed = all.agreed place w.history.seen.run (run_at a b runs most went.begins went.steps place w here) in
    let good : IsGood (seen_from place new) new.disk.beat = (agreed.each new.disk.beat agreed.later (omega arith)).good in
    let part_w = part place w (b.own place) b in
    let is_kept : IsKept part_w = record {
      told = subst (λ (s : SiteView). IsTrue s.disk.told) (sym went.to_is) agreed.told;
      good = subst (λ (s : SiteView). IsGood (seen_from place s) s.disk.beat) (sym went.to_is) good;
      sound = subst (λ (s : SiteView). IsSound (seen_from place s)) (sym went.to_is) (sound-seen place new all.sound);
      whole = whole;
      filters = filters_seen place b.filters b.site sure.filters;
      all = fleet_has_all a b went.begins.filters.all went.steps;
    } in
    send_acted part_w is_kept task issue agent moment bytes send replied.moment replied.status replied.rule replied.text replied.has

pub fleet_send_is_acted_on : EachFleetSendIsActedOn
fleet_send_is_acted_on ill runs most old new went closes all place v w there empty here =
    ended_run_is_acted_on runs most old new went (subst IsGoing (sym closes.turn.phase) tt) all place v w there empty here
    (some_of (outcome w.history.seen.lists) (λ none. closes.ended place (record { v = w; there = here; has = none })))
