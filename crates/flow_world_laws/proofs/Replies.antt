-- What becomes of the replies that a session takes.
use Rattle.std.proofs.Common.{◌≡◌, inl, inr, ℕ, ◌≤◌, true, List, [], ◌++◌, IsTrue, sym, ap, subst, ◌∙◌, arith}
use Rattle.std.specs.Prelude.{Contains}
use Rattle.std.proofs.lemmas.List.{append-nil}
use Rattle.std.proofs.lemmas.List.Elements.{Contains-append_left}
use Rattle.cacao_site.specs.DiskCalls.{GoesOn, IsLeft}
use Rattle.cacao_site.specs.LinkCalls.{GainsAll}
use Rattle.cacao_site.specs.Sound.{IsSound}
use Rattle.cacao_site.specs.View.{LinkView, SiteView}
use Rattle.cacao_site.specs.declared.parcel.Parcel.{Parcel}
use Rattle.oc2_msg.specs.declared.answers.Answer.{Answer}
use Rattle.run_records.specs.declared.record.Record.{Record}
use Rattle.run_records.specs.declared.record.Record.TheVariants as entry
use Rattle.flow_core_rules.specs.Givens.{Given}
use Rattle.flow_engine.specs.EngineCalls.{IsFinal, IsFromFilter}
use Rattle.flow_engine_answers.specs.declared.answers.OperatorAnswer.{OperatorAnswer}
use Rattle.flow_laws.specs.Held.{HasOpenSend}
use Rattle.flow_laws.proofs.Basics.{same_some}
use Rattle.flow_laws.proofs.OneList.{same_records}
use Rattle.flow_world_steps.specs.Handled.{Handles, HasItsReply, IsAtHand, WasNoReply}
use Rattle.flow_world_steps.specs.Stands.{AllStand}
use Rattle.flow_world_steps.specs.Whole.{AddsUp}
use Rattle.flow_world_steps.specs.Worlds.{IsGoing, Phase, World, looked, rests, waits}
use Rattle.flow_world_steps.proofs.Hands.{few_at_hand, hand_as}
use Rattle.flow_world_steps.proofs.Records.{has_records}
use Rattle.flow_world_steps.proofs.Standing.{steps_stand}
use Rattle.flow_world_parts.specs.Closes.{IsClose}
use Rattle.flow_world_parts.specs.declared.close.Close.{Close}
use Rattle.flow_world_parts.specs.declared.close.Close.TheVariants as close
use Rattle.flow_world_laws.specs.Ends.{IsInTurn, TurnAt}
use Rattle.flow_world_laws.proofs.Carried.{steps_keep_disk_on}
use Rattle.flow_world_laws.proofs.Shown.{steps_in_turn}
use Rattle.flow_world_laws.specs.Parcels.{IsRecorded, Took, WasAwaited, but_the_last}
use Rattle.flow_world_laws.proofs.Awaited.{from_filter}
use Rattle.flow_world_laws.proofs.Taken.{all_taken, in_front, parts}
use Rattle.flow_world_laws.specs.Replies.{EachCloseRecords, EachSessionRecords, RepliesAreRecorded}
use Rattle.flow_world_laws.specs.Returns.{IsSession}
use Rattle.flow_world_laws.proofs.Behind.{StandsBehind, stands_behind, sums}

module _ (given : Given) (run most : ℕ) (answers : List OperatorAnswer) (a b : World) (old : SiteView) (is : IsSession given run most answers a b old b.site) (sound : IsSound b.site)
    (told : IsTrue b.site.disk.told) (taken : List (ℕ × Parcel)) (took : Took old b.site taken) where
  added_up : AddsUp a b most
  added_up = sums given run most answers a b is.begins is.steps

  handles : Handles a b
  handles = added_up.handles

  link : a.site.link ≡ old.link
  link = is.rest.link ∙ is.journal.opens.only.rest.link

  -- the parcels taken are those that were handed on, and the one that is not yet
  are_parcels : taken ≡ handles.handled ++ handles.at_hand
  are_parcels =
      let gains : GainsAll old.link.taken (handles.handled ++ handles.at_hand) b.site.link.taken =
      subst (λ (l : LinkView). GainsAll l.taken (handles.handled ++ handles.at_hand) b.site.link.taken) link handles.takes in
      all_taken old.link.taken b.site.link.taken took.before taken (handles.handled ++ handles.at_hand) took.was took.now gains

  -- the Reply stands in each image
  recorded : (parcel : Parcel) (read : Answer) → IsFinal parcel.bytes read → HasItsReply b parcel → IsRecorded b.site parcel read
  recorded parcel read final has image left =
      let behind : StandsBehind a b image = stands_behind given run most answers a b is.begins is.steps told image left in
      let same : has.read ≡ read = same_some (sym has.reads ∙ final.reads) in
      record {
        records = b.engine.history.records ++ behind.more;
        are = behind.are;
        so = (
          has.moment,
          Contains-append_left b.engine.history.records behind.more (entry.Reply parcel.issue has.moment read.status read.rule read.text)
              (subst (λ (r : Answer). Contains b.engine.history.records (entry.Reply parcel.issue has.moment r.status r.rule r.text)) same has.has),
        );
      }

  -- one that was no final reply was not awaited
  not_none : (front : List (ℕ × Parcel)) (e : ℕ × Parcel) (read : Answer) → e.1.back ≡ true → WasAwaited b.site e.0 e.1 → IsFinal e.1.bytes read → WasNoReply a b front e → ⊥
  not_none front e read back awaited final was = was.none read (record { sent_back = sent_back; read_is = final })
    where
      turn : IsInTurn was.w × (e.0 ≡ was.w.site.disk.beat)
      turn = subst (λ (p : Phase). TurnAt p was.w) was.in_hand (steps_in_turn a was.w is.begins.phase was.before)

      going : IsGoing was.w.phase
      going = subst IsGoing (sym was.in_hand) tt

      stands : AllStand was.w
      stands = steps_stand a was.w (record { engine = is.begins.whole; filters = is.begins.filters }) was.before going

      on : GoesOn was.w.site.disk b.site.disk
      on = steps_keep_disk_on was.w b was.after

      told_then : IsTrue was.w.site.disk.told
      told_then = subst IsTrue on.told told

      sent_back : IsFromFilter was.w.engine.history e.1
      sent_back =
          let beat : e.0 ≤ b.site.disk.beat = omega (arith, turn.1, on.later) in
          let some = sound.images 0 e.0 told beat in
          let image = some.0 in
          let found = awaited image some.1 in
          let past : IsLeft was.w.site.disk 0 e.0 image = subst IsTrue (on.past 0 e.0 image (omega (arith, turn.1))) some.1 in
          let then : IsLeft was.w.site.disk 0 was.w.site.disk.beat image = subst (λ (n : ℕ). IsLeft was.w.site.disk 0 n image) turn.1 past in
          let same : found.records ≡ was.w.engine.history.records =
          same_records image found.records was.w.engine.history.records found.are (has_records was.w.engine was.w.site stands.engine told_then image then) in
          let is_open : HasOpenSend was.w.engine.history.records (record e.1 { bytes = found.so.0 }) =
          subst (λ (l : List Record). HasOpenSend l (record e.1 { bytes = found.so.0 })) same found.so.1 in
          from_filter was.w.engine.history e.1 found.so.0 stands.engine.engine.history turn.0.may.begun back is_open

  handled_recorded : RepliesAreRecorded b.site handles.handled
  handled_recorded e read has back awaited final =
      let place = parts handles.handled e has in
      elim (handles.replies place.front place.back e place.are back) [
        | inl reply ↦ recorded e.1 read final reply
        | inr was ↦ absurd (not_none place.front e read back.back awaited final was)
      ]

  -- ---- how it ended

  none_at_hand : (p : Phase) → b.phase ≡ p → ((l : List (ℕ × Parcel)) → IsAtHand p l → l ≡ []) → handles.at_hand ≡ []
  none_at_hand p e empty = empty handles.at_hand (hand_as b.phase p e handles.at_hand handles.open_one)

  closed_empty : (how : Close) → IsClose how b → handles.at_hand ≡ []
  closed_empty (close.Ended well) c = none_at_hand rests c.turn.phase (λ l e. e)
  closed_empty close.Paused c = none_at_hand rests c.turn.phase (λ l e. e)
  closed_empty (close.Waiting moment) c = none_at_hand (waits moment) c (λ l e. e)
  closed_empty close.Flooded c = none_at_hand rests c.phase (λ l e. e)
  closed_empty (close.Asked issue) c = none_at_hand looked c.untold.idle.has_looked.phase (λ l e. e)

  pub closed_recorded : (how : Close) → IsClose how b → RepliesAreRecorded b.site taken
  closed_recorded how c =
      let all : taken ≡ handles.handled = are_parcels ∙ ap (λ (l : List (ℕ × Parcel)). handles.handled ++ l) (closed_empty how c) ∙ append-nil handles.handled in
      subst (λ (l : List (ℕ × Parcel)). RepliesAreRecorded b.site l) (sym all) handled_recorded

  pub front_recorded : RepliesAreRecorded b.site (but_the_last taken)
  front_recorded e read has =
      handled_recorded e read
      (in_front handles.handled handles.at_hand e (few_at_hand b.phase handles.at_hand handles.open_one) (subst (λ (l : List (ℕ × Parcel)). Contains (but_the_last l) e) are_parcels has))

-- ---- the law

module _ (given : Given) (run most : ℕ) (answers : List OperatorAnswer) (a b : World) (old new : SiteView) (is : IsSession given run most answers a b old new) where
  there : IsSession given run most answers a b old b.site
  there = subst (λ (s : SiteView). IsSession given run most answers a b old s) (sym is.to_is) is

  sound_there : IsSound new → IsSound b.site
  sound_there sound = subst IsSound (sym is.to_is) sound

  told_there : IsTrue new.disk.told → IsTrue b.site.disk.told
  told_there told = subst (λ (s : SiteView). IsTrue s.disk.told) (sym is.to_is) told

  took_there : (taken : List (ℕ × Parcel)) → Took old new taken → Took old b.site taken
  took_there taken took = subst (λ (s : SiteView). Took old s taken) (sym is.to_is) took

pub each_session_records : EachSessionRecords
each_session_records given run most answers a b old new taken is sound told took =
    subst (λ (s : SiteView). RepliesAreRecorded s (but_the_last taken)) is.to_is
    (front_recorded given run most answers a b old (there given run most answers a b old new is) (sound_there given run most answers a b old new is sound)
    (told_there given run most answers a b old new is told) taken (took_there given run most answers a b old new is taken took))

pub each_close_records : EachCloseRecords
each_close_records how given run most answers a b old new taken is closes sound told took =
    subst (λ (s : SiteView). RepliesAreRecorded s taken) is.to_is
    (closed_recorded given run most answers a b old (there given run most answers a b old new is) (sound_there given run most answers a b old new is sound)
    (told_there given run most answers a b old new is told) taken (took_there given run most answers a b old new is taken took) how closes)
