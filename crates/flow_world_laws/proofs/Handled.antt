-- What became of the parcels that a session took.
use Rattle.std.proofs.Common.{◌≡◌, ◌≢◌, ◌⊎◌, inl, inr, ℕ, suc, ◌+◌, ◌-◌, ◌≤◌, true, List, [], ◌∷◌, ◌++◌, length, Option, Some, None, IsTrue, refl, sym, ap, subst, ◌∙◌, arith, append_assoc}
use Rattle.std.specs.Prelude.{All, Contains, IfSome, IsSome, slice_get}
use Rattle.std.proofs.lemmas.List.{append-nil, append_cancel_left}
use Rattle.std.proofs.lemmas.List.Elements.{All-contains, Contains-append_cases, Contains-append_left, Contains-append_right}
use Rattle.cacao_site.specs.DiskCalls.{GoesOn, IsLeft}
use Rattle.cacao_site.specs.LinkCalls.{GainsAll}
use Rattle.cacao_site.specs.Sound.{IsSound}
use Rattle.cacao_site.specs.View.{LinkView, SiteView}
use Rattle.cacao_site.specs.declared.parcel.Parcel.{Parcel}
use Rattle.oc2_msg.specs.declared.answers.Answer.{Answer}
use Rattle.run_records.specs.Ranges.{ActInRange}
use Rattle.run_records.specs.declared.act.Act.{Act}
use Rattle.run_records.specs.declared.record.Record.{Record}
use Rattle.run_records.specs.declared.record.Record.TheVariants as entry
use Rattle.flow_core_rules.specs.Givens.{Given}
use Rattle.flow_engine.specs.EngineCalls.{IsFinal, IsFromFilter}
use Rattle.flow_engine_answers.specs.declared.answers.OperatorAnswer.{OperatorAnswer}
use Rattle.flow_laws.specs.Good.{AgreeOn}
use Rattle.flow_laws.specs.Held.{HasOpenSend}
use Rattle.flow_laws.specs.Images.{IsActs, IsAgent, IsRecords, puts_to}
use Rattle.flow_laws.proofs.Basics.{same_some}
use Rattle.flow_laws.proofs.OneList.{same_acts, same_records}
use Rattle.slpf_actuator.specs.ActuatorView.{ActuatorView}
use Rattle.flow_world_steps.specs.Grown.{HasGrown, acts_of}
use Rattle.flow_world_steps.specs.Handled.{HasItsAct, HasItsReply, IsAtHand, IsBack, IsCommand, IsTakenAct, IsTakenReply, WasNoReply}
use Rattle.flow_world_steps.specs.Stands.{AllStand}
use Rattle.flow_world_steps.specs.Steps.{IsAddressed, Steps}
use Rattle.flow_world_steps.specs.Worlds.{IsGoing, Phase, World, holds, looked, refused, rests, waits}
use Rattle.flow_world_steps.proofs.Hands.{hand_as}
use Rattle.flow_world_steps.proofs.Records.{has_records}
use Rattle.flow_world_steps.proofs.Standing.{steps_stand}
use Rattle.flow_world.specs.Closes.{IsClose}
use Rattle.flow_world.specs.Openings.{RefusesOpening}
use Rattle.flow_world.specs.Close.{Close}
use Rattle.flow_world.specs.Close.TheVariants as close
use Rattle.flow_world.specs.WorldError.{WorldError}
use Rattle.flow_world.specs.Sessions.{IsStart, Went}
use Rattle.flow_world_laws.specs.Ends.{IsInTurn, TurnAt}
use Rattle.flow_world_laws.proofs.Carried.{steps_keep_disk_on}
use Rattle.flow_world_laws.proofs.Shown.{steps_in_turn}
use Rattle.flow_world_laws.specs.Parcels.{AreHandled, HasTakenActs, HasTakenReplies, IsActedOn, IsOfTaken, IsRecorded, Took, WasAwaited, but_the_last}
use Rattle.flow_world_laws.proofs.Awaited.{from_filter}
use Rattle.flow_world_laws.proofs.Held.{HoldsActsMore, HoldsRecordsMore, acts_at, filter_had, good_at, journal_had, kept_at, parcels, records_at, taken_first, told_at}
use Rattle.flow_world_laws.proofs.Taken.{all_taken, in_acts_of, in_all, in_front, parts, there_at, was_put}

module _ (given : Given) (run most : ℕ) (answers : List OperatorAnswer) (old new : SiteView) (sound_old : IsSound old) (start : IsStart old run) (went : Went given run most answers old new)
    (sound : IsSound went.to.site) (taken : List (ℕ × Parcel)) (took : Took old went.to.site taken) where
  abbrev last : World
  last = went.to

  abbrev handled : List (ℕ × Parcel)
  handled = went.sums.handles.handled

  told : IsTrue last.site.disk.told
  told = told_at given run most answers old new sound_old start went last went.steps

  -- the parcels taken are those that were handed on, and the one that is not yet
  are_parcels : taken ≡ parcels given run most answers old new sound_old start went
  are_parcels =
      let handles = went.sums.handles in
      let gains : GainsAll old.link.taken (handles.handled ++ handles.at_hand) last.site.link.taken =
      subst (λ (o : Option (List (ℕ × Parcel))). GainsAll o (handles.handled ++ handles.at_hand) last.site.link.taken) (sym (taken_first given run most answers old new sound_old start went)) handles.takes in
      all_taken old.link.taken last.site.link.taken took.before taken (handles.handled ++ handles.at_hand) took.was took.now gains

  -- ---- commands

  acted_on : (parcel : Parcel) → IsCommand parcel → HasItsAct last parcel → IsActedOn last.site parcel
  acted_on parcel command has image left =
      let is : IsAgent parcel.agent = (command.addressed.low, command.addressed.high) in
      let h : HoldsActsMore (parcels given run most answers old new sound_old start went) parcel.agent (has.filter).acts image =
      acts_at given run most answers old new sound_old start went parcel.agent is has.filter has.there image left in
      record {
        acts = (has.filter).acts ++ h.more;
        are = h.are;
        so = (has.act, record { has = Contains-append_left (has.filter).acts h.more has.act has.has; of_run = has.run; of_issue = has.issue });
      }

  commands_handled : (e : ℕ × Parcel) → Contains handled e → IsCommand e.1 → IsActedOn last.site e.1
  commands_handled e has command =
      acted_on e.1 command (All-contains (λ (x : ℕ × Parcel). IsCommand x.1 → HasItsAct last x.1) handled e (went.sums.acts went.files.others.many) has command)

  -- ---- replies

  -- the Reply stands in each image
  recorded : (parcel : Parcel) (read : Answer) → IsFinal parcel.bytes read → HasItsReply last parcel → IsRecorded last.site parcel read
  recorded parcel read final has image left =
      let h = records_at given run most answers old new sound_old start went image left in
      let same : has.read ≡ read = same_some (sym has.reads ∙ final.reads) in
      record {
        records = last.engine.history.records ++ h.more;
        are = h.are;
        so = (
          has.moment,
          Contains-append_left last.engine.history.records h.more (entry.Reply parcel.issue has.moment read.status read.rule read.text)
              (subst (λ (r : Answer). Contains last.engine.history.records (entry.Reply parcel.issue has.moment r.status r.rule r.text)) same has.has),
        );
      }

  -- a reply that was taken was put, so it comes from an agent, and is short
  images : ℕ → List ℕ
  images file = (sound.images file last.site.disk.beat told (omega arith)).0

  images_left : (file : ℕ) → IsLeft last.site.disk file last.site.disk.beat (images file)
  unfolding images
  images_left file = (sound.images file last.site.disk.beat told (omega arith)).1

  agreed : AgreeOn images (puts_to last.site last.site.disk.beat)
  agreed = (good_at given run most answers old new sound_old start went last went.steps).each images (λ file le. images_left file)

  is_addressed : (e : ℕ × Parcel) → Contains (took.before ++ taken) e → e.1.back ≡ true → IsAddressed e.1
  is_addressed e has back =
      let parcel = e.1 in
      let kept = kept_at given run most answers old new sound_old start went last went.steps in
      let put = was_put last.site.disk.beat last.site.link.pending last.site.link.taken last.site.link.puts (took.before ++ taken) e kept.pending took.now kept.puts sound.was_put sound.puts.past has in
      let of = agreed.agree.replies put.0 parcel put.1 back in
      let number : suc (parcel.agent - 1) ≡ parcel.agent = omega (arith, of.is_agent.0) in
      let many : length went.start.filters ≡ 16 = went.files.others.many in
      let grown : length last.filters ≡ length went.start.filters = went.sums.grow.many in
      let filter = there_at last.filters (parcel.agent - 1) (omega (arith, number, of.is_agent.1, many, grown)) in
      let h = acts_at given run most answers old new sound_old start went parcel.agent of.is_agent filter.0 filter.1 (images parcel.agent) (images_left parcel.agent) in
      let same : agreed.acts parcel.agent ≡ (filter.0).acts ++ h.more =
      same_acts (images parcel.agent) (agreed.acts parcel.agent) ((filter.0).acts ++ h.more) (agreed.are_acts parcel.agent of.is_agent) h.are in
      let act = of.reply.act in
      let range : ActInRange act = in_all ActInRange ((filter.0).acts ++ h.more) act h.ranges (subst (λ (l : List Act). Contains l act) same of.reply.has) in
      let long : length act.reply ≡ length parcel.bytes = ap (λ (l : List ℕ). length l) of.reply.reply in
      record { low = of.is_agent.0; high = of.is_agent.1; small = omega (arith, range.short_reply, long) }

  -- one that was no final reply was not awaited
  not_none : (front : List (ℕ × Parcel)) (e : ℕ × Parcel) (read : Answer) → e.1.back ≡ true → WasAwaited last.site e.0 e.1 → IsFinal e.1.bytes read → WasNoReply went.start last front e → ⊥
  not_none front e read back awaited final was = was.none read (record { sent_back = sent_back; read_is = final })
    where
      turn : IsInTurn was.w × (e.0 ≡ was.w.site.disk.beat)
      turn = subst (λ (p : Phase). TurnAt p was.w) was.in_hand (steps_in_turn went.start was.w went.begins.phase was.before)

      going : IsGoing was.w.phase
      going = subst IsGoing (sym was.in_hand) tt

      stands : AllStand was.w
      stands = steps_stand went.start was.w (record { engine = went.begins.whole; filters = went.begins.filters }) was.before going

      on : GoesOn was.w.site.disk last.site.disk
      on = steps_keep_disk_on was.w last was.after

      told_then : IsTrue was.w.site.disk.told
      told_then = told_at given run most answers old new sound_old start went was.w was.before

      sent_back : IsFromFilter was.w.engine.history e.1
      sent_back =
          let beat : e.0 ≤ last.site.disk.beat = omega (arith, turn.1, on.later) in
          let some = sound.images 0 e.0 told beat in
          let image = some.0 in
          let found = awaited image some.1 in
          let past : IsLeft was.w.site.disk 0 e.0 image = subst IsTrue (on.past 0 e.0 image (omega (arith, turn.1))) some.1 in
          let then : IsLeft was.w.site.disk 0 was.w.site.disk.beat image = subst (λ (n : ℕ). IsLeft was.w.site.disk 0 n image) turn.1 past in
          let same : found.records ≡ was.w.engine.history.records =
          same_records image found.records was.w.engine.history.records found.are (has_records was.w.engine was.w.site stands.engine told_then image then) in
          let is_open : HasOpenSend was.w.engine.history.records (record e.1 { bytes = found.so.0 }) =
          subst (λ (l : List Record). HasOpenSend l (record e.1 { bytes = found.so.0 })) same found.so.1 in
          from_filter was.w.engine.history e.1 found.so.0 stands.engine.engine.history turn.0.may.begun back is_open

  replies_handled : (e : ℕ × Parcel) (read : Answer) → Contains handled e → e.1.back ≡ true → WasAwaited last.site e.0 e.1 → IsFinal e.1.bytes read → IsRecorded last.site e.1 read
  replies_handled e read has back awaited final =
      let among : Contains taken e =
      subst (λ (l : List (ℕ × Parcel)). Contains l e) (sym are_parcels) (Contains-append_left handled went.sums.handles.at_hand e has) in
      let all : Contains (took.before ++ taken) e = Contains-append_right took.before taken e among in
      let place = parts handled e has in
      elim (went.sums.handles.replies place.front place.back e place.are (record { addressed = is_addressed e all back; back = back })) [
        | inl is ↦ recorded e.1 read final is
        | inr was ↦ absurd (not_none place.front e read back awaited final was)
      ]

  pub are_handled : AreHandled last.site handled
  are_handled = record { commands = commands_handled; replies = replies_handled }

  -- ---- what was appended

  of_parcels : (agent : ℕ) (act : Act) → IsTakenAct (parcels given run most answers old new sound_old start went) (agent, act) → IsTakenAct taken (agent, act)
  of_parcels agent act is = subst (λ (l : List (ℕ × Parcel)). IsTakenAct l (agent, act)) (sym are_parcels) is

  same_acted : went.sums.grow.acted ≡ went.sums.handles.acted
  same_acted = append_cancel_left went.start.notes.acted went.sums.grow.acted went.sums.handles.acted (sym went.sums.grow.acts ∙ went.sums.handles.acts)

  act_taken : (agent : ℕ) (act : Act) → Contains (acts_of agent went.sums.grow.acted) act → IsTakenAct (parcels given run most answers old new sound_old start went) (agent, act)
  act_taken agent act has =
      All-contains (IsTakenAct (parcels given run most answers old new sound_old start went)) went.sums.handles.acted (agent, act) went.sums.handles.of_acts
      (subst (λ (l : List (ℕ × Act)). Contains l (agent, act)) same_acted (in_acts_of agent went.sums.grow.acted act has))

  acts_taken : (agent : ℕ) → IsAgent agent → (image : List ℕ) → IsLeft last.site.disk agent last.site.disk.beat image → (acts : List Act) × IsActs image acts × HasTakenActs taken agent old acts
  acts_taken agent is image left =
      let number : suc (agent - 1) ≡ agent = omega (arith, is.0) in
      let many : length went.start.filters ≡ 16 = went.files.others.many in
      let was = there_at went.start.filters (agent - 1) (omega (arith, number, is.1, many)) in
      let v = was.0 in
      let grown : HasGrown v last.filters (agent - 1) (acts_of agent went.sums.grow.acted) =
      subst (λ (n : ℕ). HasGrown v last.filters (agent - 1) (acts_of n went.sums.grow.acted)) number (went.sums.grow.each (agent - 1) v was.1) in
      let h = acts_at given run most answers old new sound_old start went agent is grown.now grown.there image left in
      let more = acts_of agent went.sums.grow.acted in (
        (grown.now).acts ++ h.more,
        h.are,
        record {
          image = old.disk.reads agent;
          left = sound_old.reads agent start.told;
          before = v.acts;
          had = filter_had given run most answers old new sound_old start went agent is v was.1;
          added = more ++ h.more;
          are = ap (λ (l : List Act). l ++ h.more) grown.has ∙ append_assoc v.acts more h.more;
          of_commands = λ act has. of_parcels agent act (elim (Contains-append_cases more h.more act has) [
            | inl early ↦ act_taken agent act early
            | inr late ↦ h.of_taken act late
          ]);
        },
      )

  records_taken : (image : List ℕ) → IsLeft last.site.disk 0 last.site.disk.beat image → (records : List Record) × IsRecords image records × HasTakenReplies taken run old records
  records_taken image left =
      let h = records_at given run most answers old new sound_old start went image left in
      let before = went.start.engine.history.records in
      let added = went.sums.handles.added in
      let all = parcels given run most answers old new sound_old start went in
      let of_added : All (IsTakenReply run all) added =
      subst (λ (n : ℕ). All (IsTakenReply n all) added) went.begins.of_run went.sums.handles.of_replies in (
        last.engine.history.records ++ h.more,
        h.are,
        record {
          image = old.disk.reads 0;
          left = sound_old.reads 0 start.told;
          before = before;
          had = journal_had given run most answers old new sound_old start went;
          added = added ++ h.more;
          are = ap (λ (l : List Record). l ++ h.more) went.sums.handles.adds ∙ append_assoc before added h.more;
          of_replies = λ r has. subst (λ (l : List (ℕ × Parcel)). IsTakenReply run l r) (sym are_parcels) (elim (Contains-append_cases added h.more r has) [
            | inl early ↦ All-contains (IsTakenReply run all) added r of_added early
            | inr late ↦ h.of_taken r late
          ]);
        },
      )

  pub is_of_taken : IsOfTaken taken run old last.site
  is_of_taken = record {
    acts = λ agent is image left. let found = acts_taken agent is image left in record { acts = found.0; are = found.1; so = found.2 };
    replies = λ image left. let found = records_taken image left in record { records = found.0; are = found.1; so = found.2 };
  }

  -- ---- how it ended

  none_at_hand : (p : Phase) → last.phase ≡ p → ((l : List (ℕ × Parcel)) → IsAtHand p l → l ≡ []) → went.sums.handles.at_hand ≡ []
  none_at_hand p e empty = empty went.sums.handles.at_hand (hand_as last.phase p e went.sums.handles.at_hand went.sums.handles.open_one)

  closed_empty : (how : Close) → IsClose how last → went.sums.handles.at_hand ≡ []
  closed_empty (close.Ended well) c = none_at_hand rests c.turn.phase (λ l e. e)
  closed_empty close.Paused c = none_at_hand rests c.turn.phase (λ l e. e)
  closed_empty (close.Waiting moment) c = none_at_hand (waits moment) c (λ l e. e)
  closed_empty close.Flooded c = none_at_hand rests c.phase (λ l e. e)
  closed_empty (close.Asked issue) c = none_at_hand looked c.untold.idle.has_looked.phase (λ l e. e)

  pub closed_handled : (how : Close) → IsClose how last → AreHandled last.site taken
  closed_handled how c =
      let all : taken ≡ handled = are_parcels ∙ ap (λ (l : List (ℕ × Parcel)). handled ++ l) (closed_empty how c) ∙ append-nil handled in
      subst (λ (l : List (ℕ × Parcel)). AreHandled last.site l) (sym all) are_handled

  pub front_handled : length went.sums.handles.at_hand ≤ 1 → AreHandled last.site (but_the_last taken)
  front_handled few =
      let back : (e : ℕ × Parcel) → Contains (but_the_last taken) e → Contains handled e =
      λ e has. in_front handled went.sums.handles.at_hand e few (subst (λ (l : List (ℕ × Parcel)). Contains (but_the_last l) e) are_parcels has) in
      record {
        commands = λ e has. are_handled.commands e (back e has);
        replies = λ e read has. are_handled.replies e read (back e has);
      }
