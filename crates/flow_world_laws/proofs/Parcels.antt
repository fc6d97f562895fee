-- The law: sessions that closed, sessions that refused, and openings that were refused.
use Rattle.std.proofs.Common.{◌≡◌, inl, inr, ℕ, ◌≤◌, List, [], ◌++◌, length, Option, Some, IsTrue, refl, sym, ap, subst, ◌∙◌, arith}
use Rattle.std.specs.Prelude.{Contains}
use Rattle.std.proofs.lemmas.List.{append-nil, append_cancel_left}
use Rattle.cacao_site.specs.DiskCalls.{IsLeft}
use Rattle.cacao_site.specs.Sound.{IsSound}
use Rattle.cacao_site.specs.View.{LinkView, SiteView}
use Rattle.cacao_site.specs.declared.parcel.Parcel.{Parcel}
use Rattle.run_records.specs.declared.act.Act.{Act}
use Rattle.run_records.specs.declared.record.Record.{Record}
use Rattle.flow_core_rules.specs.Givens.{Given}
use Rattle.flow_engine_answers.specs.declared.answers.OperatorAnswer.{OperatorAnswer}
use Rattle.flow_laws.specs.Good.{AgreeOn, IsChoice}
use Rattle.flow_laws.specs.Images.{IsActs, IsAgent, IsRecords, puts_to}
use Rattle.flow_laws.proofs.Basics.{put_at, put_at-each, put_at-same, same_some}
use Rattle.flow_world_steps.specs.Worlds.{refused}
use Rattle.flow_world_steps.proofs.Hands.{few_at_hand}
use Rattle.flow_world.specs.Openings.{RefusesOpening}
use Rattle.flow_world.specs.WorldError.{WorldError}
use Rattle.flow_world.specs.Sessions.{IsStart, Went}
use Rattle.flow_world_laws.proofs.Opening.{opens_refused}
use Rattle.flow_world_laws.specs.Parcels.{AreHandled, EachCloseHandles, EachRefusalHandles, IsOfTaken, Took, but_the_last}
use Rattle.flow_world_laws.proofs.Handled.{closed_handled, front_handled, is_of_taken}
use Rattle.flow_world_laws.proofs.Taken.{none_in}

-- ---- once all files were open

module _ (given : Given) (run most : ℕ) (answers : List OperatorAnswer) (old new : SiteView) (taken : List (ℕ × Parcel)) (sound_old : IsSound old) (sound : IsSound new) (start : IsStart old run)
    (went : Went given run most answers old new) (took : Took old new taken) where
  sound_there : IsSound went.to.site
  sound_there = subst IsSound (sym went.to_is) sound

  took_there : Took old went.to.site taken
  took_there = subst (λ (s : SiteView). Took old s taken) (sym went.to_is) took

  of_taken : IsOfTaken taken run old new
  of_taken = subst (λ (s : SiteView). IsOfTaken taken run old s) went.to_is (is_of_taken given run most answers old new sound_old start went sound_there taken took_there)

  front : AreHandled new (but_the_last taken)
  front = subst (λ (s : SiteView). AreHandled s (but_the_last taken)) went.to_is
      (front_handled given run most answers old new sound_old start went sound_there taken took_there (few_at_hand went.to.phase went.sums.handles.at_hand went.sums.handles.open_one))

pub each_close_handles : EachCloseHandles
each_close_handles close given run most answers old new taken sound_old sound start closed took =
    let went = closed.went in (
      subst (λ (s : SiteView). AreHandled s taken) went.to_is
          (closed_handled given run most answers old new sound_old start went (sound_there given run most answers old new taken sound_old sound start went took) taken
          (took_there given run most answers old new taken sound_old sound start went took) close closed.closes),
      of_taken given run most answers old new taken sound_old sound start went took,
    )

-- ---- where files were not opened

module _ (given : Given) (run : ℕ) (old new : SiteView) (taken : List (ℕ × Parcel)) (sound_old : IsSound old) (start : IsStart old run) (error : WorldError) (is : RefusesOpening error given run old new)
    (took : Took old new taken) where
  same_link : RefusesOpening error given run old new → new.link ≡ old.link
  same_link (inl one) = one.opens.only.rest.link
  same_link (inr two) = (two.refuses).refuses.opens.only.rest.link ∙ (two.refuses).before.rest.link ∙ two.journal.opens.only.rest.link

  none_taken : taken ≡ []
  none_taken =
      let same : new.link.taken ≡ old.link.taken = ap (λ (l : LinkView). l.taken) (same_link is) in
      let lists : took.before ++ taken ≡ took.before = same_some (sym took.now ∙ same ∙ took.was) in
      append_cancel_left took.before taken [] (lists ∙ sym (append-nil took.before))

  not_there : (e : ℕ × Parcel) → Contains (but_the_last taken) e → ⊥
  not_there e has = none_in e (subst (λ (l : List (ℕ × Parcel)). Contains (but_the_last l) e) none_taken has)

  among : (file : ℕ) (image : List ℕ) → IsLeft new.disk file new.disk.beat image → IsLeft old.disk file old.disk.beat image
  among file image left = (opens_refused error given run old new is).among start.told file image left

  choice : (file : ℕ) (image : List ℕ) → IsLeft new.disk file new.disk.beat image → IsChoice old old.disk.beat (put_at file image (λ n. old.disk.reads n))
  choice file image left = λ other le. put_at-each (λ (n : ℕ) (l : List ℕ). IsLeft old.disk n old.disk.beat l) file image (λ n. old.disk.reads n) other
      (λ e. subst (λ (n : ℕ). IsLeft old.disk n old.disk.beat image) (sym e) (among file image left))
      (λ ne. sound_old.reads other start.told)

  agreed : (file : ℕ) (image : List ℕ) → IsLeft new.disk file new.disk.beat image → AgreeOn (put_at file image (λ n. old.disk.reads n)) (puts_to old old.disk.beat)
  agreed file image left = start.start.good.each (put_at file image (λ n. old.disk.reads n)) (choice file image left)

  opening_of_taken : IsOfTaken taken run old new
  opening_of_taken = record {
    acts = λ agent is_agent image left.
        let g = agreed agent image left in
        let are : IsActs image (g.acts agent) = subst (λ (l : List ℕ). IsActs l (g.acts agent)) (put_at-same agent image (λ n. old.disk.reads n)) (g.are_acts agent is_agent) in
        record {
          acts = g.acts agent;
          are = are;
          so = record {
            image = image;
            left = among agent image left;
            before = g.acts agent;
            had = are;
            added = [];
            are = sym (append-nil (g.acts agent));
            of_commands = λ act has. absurd (none_in act has);
          };
        };
    replies = λ image left.
        let g = agreed 0 image left in
        let are : IsRecords image g.records = subst (λ (l : List ℕ). IsRecords l g.records) (put_at-same 0 image (λ n. old.disk.reads n)) g.are_records in
        record {
          records = g.records;
          are = are;
          so = record {
            image = image;
            left = among 0 image left;
            before = g.records;
            had = are;
            added = [];
            are = sym (append-nil g.records);
            of_replies = λ r has. absurd (none_in r has);
          };
        };
  }

  opening_handled : AreHandled new (but_the_last taken)
  opening_handled = record {
    commands = λ e has. absurd (not_there e has);
    replies = λ e read has. absurd (not_there e has);
  }

pub each_refusal_handles : EachRefusalHandles
each_refusal_handles error given run most answers old new taken sound_old sound start (inl opening) took =
    (opening_handled given run old new taken sound_old start error opening took, opening_of_taken given run old new taken sound_old start error opening took)
each_refusal_handles error given run most answers old new taken sound_old sound start (inr later) took =
    (front given run most answers old new taken sound_old sound start later.went took, of_taken given run most answers old new taken sound_old sound start later.went took)
