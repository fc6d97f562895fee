-- What became of the parcels that a fleet took, once all files were open.
use Rattle.std.proofs.Common.{◌≡◌, inl, inr, ℕ, suc, ◌-◌, ◌≤◌, true, List, [], ◌++◌, length, Some, sym, ap, subst, ◌∙◌, arith, append_assoc, All}
use Rattle.std.specs.Prelude.{Contains, IsTrue, slice_get}
use Rattle.std.specs.List.{AllByRecursion}
use Rattle.std.proofs.lemmas.List.{append-nil, append_cancel_left}
use Rattle.std.proofs.lemmas.List.Elements.{All-contains, Contains-append_cases, Contains-append_left, Contains-append_right}
use Rattle.cacao_site.specs.DiskCalls.{GoesOn, IsLeft}
use Rattle.cacao_site.specs.RunViews.{file_of}
use Rattle.cacao_site.specs.Sound.{IsSound}
use Rattle.cacao_site.specs.View.{SiteView}
use Rattle.cacao_site.specs.declared.parcel.Parcel.{Parcel}
use Rattle.oc2_msg.specs.declared.answers.Answer.{Answer}
use Rattle.run_records.specs.Ranges.{ActInRange}
use Rattle.run_records.specs.declared.act.Act.{Act}
use Rattle.run_records.specs.declared.record.Record.{Record}
use Rattle.run_records.specs.declared.record.Record.TheVariants as entry
use Rattle.flow_engine.specs.EngineCalls.{IsFinal, IsFromFilter}
use Rattle.flow_laws.specs.Acts.{HasReply, IsBytes}
use Rattle.flow_laws.specs.Good.{AgreeOn}
use Rattle.flow_laws.specs.Held.{HasOpenSend}
use Rattle.flow_laws.specs.Images.{IsActs, IsAgent, IsRecords, puts_to}
use Rattle.flow_laws.proofs.Basics.{same_some}
use Rattle.flow_laws.proofs.OneList.{same_acts, same_records}
use Rattle.flow_world_steps.specs.Grown.{HasGrown, acts_of}
use Rattle.flow_world_steps.specs.Handled.{IsAtHand, IsCommand, IsTakenAct, IsTakenReply}
use Rattle.flow_world_steps.specs.Steps.{IsAddressed}
use Rattle.flow_world_steps.specs.Worlds.{Phase, looked, rests, waits}
use Rattle.flow_world_steps.proofs.Hands.{few_at_hand, hand_as}
use Rattle.flow_world_steps.proofs.Records.{has_records}
use Rattle.flow_world_laws.specs.Parcels.{HasTakenActs, HasTakenReplies, IsActedOn, IsRecorded, Took, WasAwaited, but_the_last}
use Rattle.flow_world_laws.proofs.Awaited.{from_filter}
use Rattle.flow_world_laws.proofs.Taken.{in_acts_of, in_all, in_front, parts, there_at, was_put}
use Rattle.flow_fleet_laws.specs.Fleets.{IsAt, IsFleetStart}
use Rattle.flow_fleet_laws.specs.Views.{seen_from}
use Rattle.flow_fleet_laws.proofs.Seen.{filter_file, sound-seen}
use Rattle.flow_fleet_steps.specs.Closes.{IsFleetClose}
use Rattle.flow_fleet_steps.specs.Laws.{FleetWent}
use Rattle.flow_fleet_steps.specs.Openings.{Runs, numbers}
use Rattle.flow_fleet_steps.specs.Steps.FleetSteps.{nothing}
use Rattle.flow_fleet_steps.specs.Worlds.{FleetWorld}
use Rattle.flow_fleet_steps.specs.declared.close.FleetClose.{FleetClose}
use Rattle.flow_fleet_steps.specs.declared.close.FleetClose.TheVariants as close
use Rattle.flow_fleet.specs.Fleets.{AreFleetRuns}
use Rattle.flow_fleet_runs.specs.Handled.{HasItsActIn, HasItsReplyIn, WasNoReplyIn}
use Rattle.flow_fleet_runs.specs.Parcels.{FleetAreHandled, FleetIsOfTaken}
use Rattle.flow_fleet_runs.proofs.Held.{acts_at, are_parcels, comes_at, engine_at, filter_had, goes_on_from, good_at, grow, handles, journal_had, number_at, records_at, run_at, shrinks, told_at}
use Rattle.flow_fleet_runs.proofs.InHand.{steps_hold}

-- what is behind a list, and what is behind that
then_more : {T : Type 0} (was more rest now : List T) → now ≡ was ++ more → now ++ rest ≡ was ++ (more ++ rest)
then_more {T} was more rest now is = ap (λ (l : List T). l ++ rest) is ∙ append_assoc was more rest

-- a reply of an act in range is short
addressed : (parcel : Parcel) (acts all : List Act) → IsAgent parcel.agent → acts ≡ all → AllByRecursion ActInRange all → HasReply acts parcel.run parcel.issue (IsBytes parcel.bytes) → IsAddressed parcel
addressed parcel acts all is same ranges of =
    let range : ActInRange of.act = in_all ActInRange all of.act ranges (subst (λ (l : List Act). Contains l of.act) same of.has) in
    let long : length (of.act).reply ≡ length parcel.bytes = ap (λ (l : List ℕ). length l) of.reply in
    record { low = is.0; high = is.1; small = omega (arith, range.short_reply, long) }

-- ---- once all files were open

module _ (runs : Runs) (most : ℕ) (old new : SiteView) (sound_old : IsSound old) (are : AreFleetRuns runs) (start : IsFleetStart old (numbers runs)) (went : FleetWent runs most old new) (sound : IsSound went.to.site)
    (taken : List (ℕ × Parcel)) (took : Took old went.to.site taken) where
  abbrev last : FleetWorld
  last = went.to

  abbrev first : SiteView
  first = went.start.site

  abbrev handled : List (ℕ × Parcel)
  handled = (handles runs most old new sound_old are start went).handled

  abbrev at_hand : List (ℕ × Parcel)
  at_hand = (handles runs most old new sound_old are start went).at_hand

  told : IsTrue last.site.disk.told
  told = told_at runs most old new sound_old are start went last went.steps

  all_taken : taken ≡ handled ++ at_hand
  all_taken = are_parcels runs most old new sound_old are start went taken took

  -- ---- commands

  acted_on : (parcel : Parcel) → IsCommand parcel → HasItsActIn last.filters parcel → IsActedOn last.site parcel
  acted_on parcel command has image left =
      let is : IsAgent parcel.agent = (command.addressed.low, command.addressed.high) in
      let h = acts_at runs most old new sound_old are start went parcel.agent is has.filter has.there image left in
      record {
        acts = (has.filter).acts ++ h.more;
        are = h.are;
        so = (has.act, record { has = Contains-append_left (has.filter).acts h.more has.act has.has; of_run = has.run; of_issue = has.issue });
      }

  commands_handled : (e : ℕ × Parcel) → Contains handled e → IsCommand e.1 → IsActedOn last.site e.1
  commands_handled e has command =
      acted_on e.1 command (All-contains (λ (x : ℕ × Parcel). IsCommand x.1 → HasItsActIn last.filters x.1) handled e (handles runs most old new sound_old are start went).commands has command)

  -- ---- replies

  -- the Reply stands in each image of the journal of its run
  recorded : (place : ℕ) (parcel : Parcel) (read : Answer) → IsAt (numbers runs) place parcel.run → IsFinal parcel.bytes read → HasItsReplyIn last.engines parcel → IsRecorded (seen_from place last.site) parcel read
  recorded place parcel read at final has image left =
      let its : IsAt (numbers runs) has.place parcel.run = subst (λ (n : ℕ). IsAt (numbers runs) has.place n) (sym has.of_run) (number_at runs most old new sound_old are start went last went.steps has.place has.v has.there) in
      let place_is : has.place ≡ place = are.once place has.place parcel.run at its in
      let there : slice_get last.engines place ≡ Some has.v = subst (λ (n : ℕ). slice_get last.engines n ≡ Some has.v) place_is has.there in
      let h = records_at runs most old new sound_old are start went place parcel.run at has.v there image left in
      let same : has.read ≡ read = same_some (sym has.reads ∙ final.reads) in
      record {
        records = (has.v).history.records ++ h.more;
        are = h.are;
        so = (
          has.moment,
          Contains-append_left (has.v).history.records h.more (entry.Reply parcel.issue has.moment read.status read.rule read.text)
              (subst (λ (r : Answer). Contains (has.v).history.records (entry.Reply parcel.issue has.moment r.status r.rule r.text)) same has.has),
        );
      }

  -- a reply of one of the runs that was taken was put, so it comes from an agent, and is short
  module _ (place run : ℕ) (at : IsAt (numbers runs) place run) where
    abbrev seen : SiteView
    seen = seen_from place last.site

    images : ℕ → List ℕ
    images file = ((sound-seen place last.site sound).images file last.site.disk.beat told (omega arith)).0

    images_left : (file : ℕ) → IsLeft seen.disk file last.site.disk.beat (images file)
    unfolding images
    images_left file = ((sound-seen place last.site sound).images file last.site.disk.beat told (omega arith)).1

    agreed : AgreeOn images (puts_to last.site last.site.disk.beat)
    agreed = (good_at runs most old new sound_old are start went place run at).each images (λ file le. images_left file)

    is_addressed : (e : ℕ × Parcel) → Contains (took.before ++ taken) e → e.1.back ≡ true → IsAddressed e.1
    is_addressed e has back =
        let parcel = e.1 in
        let come = (comes_at runs most old new sound_old are start went last went.steps).site in
        let put = was_put last.site.disk.beat last.site.link.pending last.site.link.taken last.site.link.puts (took.before ++ taken) e come.pending took.now come.puts sound.was_put sound.puts.past has in
        let of = agreed.agree.replies put.0 parcel put.1 back in
        let number : suc (parcel.agent - 1) ≡ parcel.agent = omega (arith, of.is_agent.0) in
        let many : length went.start.filters ≡ 16 = went.begins.filters.all in
        let grown : length last.filters ≡ length went.start.filters = (grow runs most old new sound_old are start went).many in
        let filter = there_at last.filters (parcel.agent - 1) (omega (arith, number, of.is_agent.1, many, grown)) in
        let left : IsLeft last.site.disk parcel.agent last.site.disk.beat (images parcel.agent) =
        subst (λ (n : ℕ). IsLeft last.site.disk n last.site.disk.beat (images parcel.agent)) (filter_file place parcel.agent of.is_agent.0 of.is_agent.1) (images_left parcel.agent) in
        let h = acts_at runs most old new sound_old are start went parcel.agent of.is_agent filter.0 filter.1 (images parcel.agent) left in
        let same : agreed.acts parcel.agent ≡ (filter.0).acts ++ h.more =
        same_acts (images parcel.agent) (agreed.acts parcel.agent) ((filter.0).acts ++ h.more) (agreed.are_acts parcel.agent of.is_agent) h.are in
        addressed parcel (agreed.acts parcel.agent) ((filter.0).acts ++ h.more) of.is_agent same h.ranges of.reply

  -- one that was no final reply was not awaited
  not_none : (place : ℕ) (front : List (ℕ × Parcel)) (e : ℕ × Parcel) (read : Answer) → IsAt (numbers runs) place e.1.run → e.1.back ≡ true → WasAwaited (seen_from place last.site) e.0 e.1 → IsFinal e.1.bytes read
      → WasNoReplyIn went.start last front e → ⊥
  not_none place front e read at back awaited final was =
      let held = steps_hold went.start was.w went.begins.phase was.before e.0 e.1 was.in_hand in
      let it = engine_at runs most old new sound_old are start went was.w was.before place e.1.run at in
      let up = (held.settled place it.v it.there).up in
      let on : GoesOn was.w.site.disk last.site.disk = goes_on_from runs most old new sound_old are start went was.w last was.before was.after in
      let now = held.now in
      let beat : e.0 ≤ last.site.disk.beat = let later = on.later in omega (arith, now, later) in
      let some = sound.images (file_of place) e.0 told beat in
      let image = some.0 in
      let found = awaited image some.1 in
      let past : IsLeft was.w.site.disk (file_of place) e.0 image = subst IsTrue (on.past (file_of place) e.0 image (omega (arith, now))) some.1 in
      let then : IsLeft was.w.site.disk (file_of place) was.w.site.disk.beat image = subst (λ (n : ℕ). IsLeft was.w.site.disk (file_of place) n image) now past in
      let told_then = told_at runs most old new sound_old are start went was.w was.before in
      let same : found.records ≡ (it.v).history.records =
      same_records image found.records (it.v).history.records found.are (has_records it.v (seen_from place was.w.site) up.has_file told_then image then) in
      let is_open : HasOpenSend (it.v).history.records (record e.1 { bytes = found.so.0 }) =
      subst (λ (l : List Record). HasOpenSend l (record e.1 { bytes = found.so.0 })) same found.so.1 in
      let sent_back : IsFromFilter (it.v).history e.1 = from_filter (it.v).history e.1 found.so.0 up.has_file.engine.history up.begun back is_open in
      was.none place it.v it.there read (record { sent_back = sent_back; read_is = final })

  replies_handled : (place : ℕ) (e : ℕ × Parcel) (read : Answer) → Contains handled e → e.1.back ≡ true → IsAt (numbers runs) place e.1.run → WasAwaited (seen_from place last.site) e.0 e.1 → IsFinal e.1.bytes read
      → IsRecorded (seen_from place last.site) e.1 read
  replies_handled place e read has back at awaited final =
      let among : Contains taken e = subst (λ (l : List (ℕ × Parcel)). Contains l e) (sym all_taken) (Contains-append_left handled at_hand e has) in
      let all : Contains (took.before ++ taken) e = Contains-append_right took.before taken e among in
      let where_ = parts handled e has in
      elim ((handles runs most old new sound_old are start went).replies where_.front where_.back e where_.are (record { addressed = is_addressed place e.1.run at e all back; back = back })) [
        | inl is ↦ recorded place e.1 read at final is
        | inr was ↦ absurd (not_none place where_.front e read at back awaited final was)
      ]

  are_handled : FleetAreHandled last.site (numbers runs) handled
  are_handled = record { commands = commands_handled; replies = replies_handled }

  -- ---- what was appended

  -- an image of each file then, which it had at the start
  begun_with : (file : ℕ) → (image : List ℕ) × IsLeft first.disk file first.disk.beat image × IsLeft old.disk file old.disk.beat image
  begun_with file =
      let on = goes_on_from runs most old new sound_old are start went went.start last nothing went.steps in
      let some = sound.images file first.disk.beat told on.later in
      let here : IsLeft first.disk file first.disk.beat some.0 = subst IsTrue (on.past file first.disk.beat some.0 (omega arith)) some.1 in
      let shrink = shrinks runs most old new sound_old are start went in
      (some.0, here, shrink.images file first.disk.beat some.0 shrink.goes_on.later (omega arith) here)

  same_acted : (grow runs most old new sound_old are start went).acted ≡ (handles runs most old new sound_old are start went).acted
  same_acted =
      let grown = grow runs most old new sound_old are start went in
      let h = handles runs most old new sound_old are start went in
      append_cancel_left went.start.notes.acted grown.acted h.acted (sym grown.acts ∙ h.acts)

  act_taken : (agent : ℕ) (act : Act) → Contains (acts_of agent (grow runs most old new sound_old are start went).acted) act → IsTakenAct (handled ++ at_hand) (agent, act)
  act_taken agent act has =
      let grown = grow runs most old new sound_old are start went in
      let h = handles runs most old new sound_old are start went in
      All-contains (IsTakenAct (h.handled ++ h.at_hand)) h.acted (agent, act) h.of_acts
      (subst (λ (l : List (ℕ × Act)). Contains l (agent, act)) same_acted (in_acts_of agent grown.acted act has))

  of_all : (agent : ℕ) (act : Act) → IsTakenAct (handled ++ at_hand) (agent, act) → IsTakenAct taken (agent, act)
  of_all agent act is = subst (λ (l : List (ℕ × Parcel)). IsTakenAct l (agent, act)) (sym all_taken) is

  acts_taken : (agent : ℕ) → IsAgent agent → (image : List ℕ) → IsLeft last.site.disk agent last.site.disk.beat image → (acts : List Act) × IsActs image acts × HasTakenActs taken agent old acts
  acts_taken agent is image left =
      let number : suc (agent - 1) ≡ agent = omega (arith, is.0) in
      let many : length went.start.filters ≡ 16 = went.begins.filters.all in
      let was = there_at went.start.filters (agent - 1) (omega (arith, number, is.1, many)) in
      let f = was.0 in
      let growth = grow runs most old new sound_old are start went in
      let grown : HasGrown f last.filters (agent - 1) (acts_of agent growth.acted) =
      subst (λ (n : ℕ). HasGrown f last.filters (agent - 1) (acts_of n growth.acted)) number (growth.each (agent - 1) f was.1) in
      let h = acts_at runs most old new sound_old are start went agent is grown.now grown.there image left in
      let more = acts_of agent growth.acted in
      let from = begun_with agent in (
        (grown.now).acts ++ h.more,
        h.are,
        record {
          image = from.0;
          left = from.2;
          before = f.acts;
          had = filter_had runs most old new sound_old are start went agent is f was.1 from.0 from.1;
          added = more ++ h.more;
          are = then_more f.acts more h.more (grown.now).acts grown.has;
          of_commands = λ act has. of_all agent act (elim (Contains-append_cases more h.more act has) [
            | inl early ↦ act_taken agent act early
            | inr late ↦ h.of_taken act late
          ]);
        },
      )

  records_taken : (place run : ℕ) → IsAt (numbers runs) place run → (image : List ℕ) → IsLeft (seen_from place last.site).disk 0 last.site.disk.beat image
      → (records : List Record) × IsRecords image records × HasTakenReplies taken run (seen_from place old) records
  records_taken place run at image left =
      let was = engine_at runs most old new sound_old are start went went.start nothing place run at in
      let is = engine_at runs most old new sound_old are start went last went.steps place run at in
      let one = run_at runs most old new sound_old are start went place was.v is.v was.there is.there in
      let h = records_at runs most old new sound_old are start went place run at is.v is.there image left in
      let before = (was.v).history.records in
      let of_added : All (IsTakenReply run (handled ++ at_hand)) one.added = subst (λ (n : ℕ). All (IsTakenReply n (handled ++ at_hand)) one.added) was.of_run one.of_replies in
      let from = begun_with (file_of place) in (
        (is.v).history.records ++ h.more,
        h.are,
        record {
          image = from.0;
          left = from.2;
          before = before;
          had = journal_had runs most old new sound_old are start went place was.v was.there from.0 from.1;
          added = one.added ++ h.more;
          are = then_more before one.added h.more (is.v).history.records one.adds;
          of_replies = λ r has. subst (λ (l : List (ℕ × Parcel)). IsTakenReply run l r) (sym all_taken) (elim (Contains-append_cases one.added h.more r has) [
            | inl early ↦ All-contains (IsTakenReply run (handled ++ at_hand)) one.added r of_added early
            | inr late ↦ h.of_taken r late
          ]);
        },
      )

  pub is_of_taken : FleetIsOfTaken taken (numbers runs) old last.site
  is_of_taken = record {
    acts = λ agent is image left. let found = acts_taken agent is image left in record { acts = found.0; are = found.1; so = found.2 };
    replies = λ place run at image left. let found = records_taken place run at image left in record { records = found.0; are = found.1; so = found.2 };
  }

  -- ---- how it ended

  none_at_hand : (p : Phase) → last.phase ≡ p → ((l : List (ℕ × Parcel)) → IsAtHand p l → l ≡ []) → at_hand ≡ []
  none_at_hand p e empty = empty at_hand (hand_as last.phase p e at_hand (handles runs most old new sound_old are start went).open_one)

  closed_empty : (how : FleetClose) → IsFleetClose how last → at_hand ≡ []
  closed_empty (close.Ended ill) c = none_at_hand rests c.turn.phase (λ l e. e)
  closed_empty close.Paused c = elim c.more [ inl begin ↦ none_at_hand rests begin.phase (λ l e. e) | inr goes ↦ none_at_hand rests goes.turn.phase (λ l e. e) ]
  closed_empty (close.Waiting moment) c = none_at_hand (waits moment) c (λ l e. e)
  closed_empty close.Flooded c = none_at_hand rests c.phase (λ l e. e)
  closed_empty (close.Asked run issue) c = none_at_hand looked c.idle.has_looked.phase (λ l e. e)

  pub closed_handled : (how : FleetClose) → IsFleetClose how last → FleetAreHandled last.site (numbers runs) taken
  closed_handled how c =
      let all : taken ≡ handled = all_taken ∙ ap (λ (l : List (ℕ × Parcel)). handled ++ l) (closed_empty how c) ∙ append-nil handled in
      subst (λ (l : List (ℕ × Parcel)). FleetAreHandled last.site (numbers runs) l) (sym all) are_handled

  few : length at_hand ≤ 1
  few = few_at_hand last.phase at_hand (handles runs most old new sound_old are start went).open_one

  pub front_handled : FleetAreHandled last.site (numbers runs) (but_the_last taken)
  front_handled =
      let back : (e : ℕ × Parcel) → Contains (but_the_last taken) e → Contains handled e =
      λ e has. in_front handled at_hand e few (subst (λ (l : List (ℕ × Parcel)). Contains (but_the_last l) e) all_taken has) in
      record {
        commands = λ e has. are_handled.commands e (back e has);
        replies = λ place e read has. are_handled.replies place e read (back e has);
      }
