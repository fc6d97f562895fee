-- The law: fleets that closed, fleets that refused, and openings that were refused.
use Rattle.std.proofs.Common.{◌≡◌, inl, inr, ℕ, ◌≤◌, List, [], ◌∷◌, ◌++◌, length, sym, ap, subst, ◌∙◌, arith}
use Rattle.std.specs.Prelude.{Contains}
use Rattle.std.proofs.lemmas.List.{append-nil, append_cancel_left}
use Rattle.cacao_site.specs.DiskCalls.{IsLeft}
use Rattle.cacao_site.specs.RunViews.{file_of, rack_file}
use Rattle.cacao_site.specs.Sound.{IsSound}
use Rattle.cacao_site.specs.View.{LinkView, SiteView}
use Rattle.cacao_site.specs.declared.parcel.Parcel.{Parcel}
use Rattle.flow_laws.specs.Good.{AgreeOn, IsChoice}
use Rattle.flow_laws.specs.Images.{IsActs, IsRecords, puts_to}
use Rattle.flow_laws.proofs.Basics.{put_at, put_at-each, put_at-same, same_some}
use Rattle.flow_world_laws.specs.Parcels.{Took, but_the_last}
use Rattle.flow_world_laws.proofs.Taken.{none_in, there_at}
use Rattle.flow_fleet_laws.specs.Fleets.{IsAt, IsFleetStart}
use Rattle.flow_fleet_laws.specs.Shrinking.{OnlyShrinks}
use Rattle.flow_fleet_laws.specs.Views.{seen_from}
use Rattle.flow_fleet_laws.proofs.Seen.{filter_file, sound-seen}
use Rattle.flow_fleet_steps.specs.Closes.{IsFleetClose}
use Rattle.flow_fleet_steps.specs.Laws.{FleetWent}
use Rattle.flow_fleet_steps.specs.Openings.{RefusesFleetOpening, Runs, numbers}
use Rattle.flow_fleet_steps.specs.declared.close.FleetClose.{FleetClose}
use Rattle.flow_fleet_steps.specs.declared.error.FleetError.{FleetError}
use Rattle.flow_fleet_steps.proofs.Openings.{openings_shrink}
use Rattle.flow_fleet.specs.Fleets.{AreFleetRuns}
use Rattle.flow_fleet_runs.specs.Parcels.{EachFleetCloseHandles, EachFleetRefusalHandles, FleetAreHandled, FleetIsOfTaken}
use Rattle.flow_fleet_runs.proofs.InHand.{same_link}
use Rattle.flow_fleet_runs.proofs.Returned.{closed_handled, front_handled, is_of_taken}

-- ---- where files were not opened

pub link_stays : (error : FleetError) (runs : Runs) (old new : SiteView) → RefusesFleetOpening error runs old new → new.link ≡ old.link
link_stays error runs old new (inl r) = r.refuses.opens.only.rest.link ∙ same_link runs old _ r.middle r.engines r.before
link_stays error runs old new (inr r) = (r.refuses).refuses.opens.only.rest.link ∙ (r.refuses).before.rest.link ∙ same_link runs old _ r.middle r.engines r.journals

module _ (runs : Runs) (old new : SiteView) (taken : List (ℕ × Parcel)) (sound_old : IsSound old) (start : IsFleetStart old (numbers runs)) (error : FleetError) (is : RefusesFleetOpening error runs old new)
    (took : Took old new taken) where
  none_taken : taken ≡ []
  none_taken =
      let same : new.link.taken ≡ old.link.taken = ap (λ (l : LinkView). l.taken) (link_stays error runs old new is) in
      let lists : took.before ++ taken ≡ took.before = same_some (sym took.now ∙ same ∙ took.was) in
      append_cancel_left took.before taken [] (lists ∙ sym (append-nil took.before))

  not_there : (e : ℕ × Parcel) → Contains (but_the_last taken) e → ⊥
  not_there e has = none_in e (subst (λ (l : List (ℕ × Parcel)). Contains (but_the_last l) e) none_taken has)

  shrink : OnlyShrinks old new
  shrink = (openings_shrink error runs old new start.told).1 is

  among : (file : ℕ) (image : List ℕ) → IsLeft new.disk file new.disk.beat image → IsLeft old.disk file old.disk.beat image
  among file image left = shrink.images file new.disk.beat image shrink.goes_on.later (omega arith) left

  -- what one image of a file of a run's view stands for
  module _ (place run : ℕ) (at : IsAt (numbers runs) place run) where
    abbrev seen_old : SiteView
    seen_old = seen_from place old

    choice : (file : ℕ) (image : List ℕ) → IsLeft (seen_from place new).disk file new.disk.beat image → IsChoice seen_old old.disk.beat (put_at file image (λ n. seen_old.disk.reads n))
    choice file image left = λ other le. put_at-each (λ (n : ℕ) (l : List ℕ). IsLeft seen_old.disk n old.disk.beat l) file image (λ n. seen_old.disk.reads n) other
        (λ e. subst (λ (n : ℕ). IsLeft seen_old.disk n old.disk.beat image) (sym e) (among (rack_file place file) image left))
        (λ ne. (sound-seen place old sound_old).reads other start.told)

    agreed_then : (file : ℕ) (image : List ℕ) → IsLeft (seen_from place new).disk file new.disk.beat image → AgreeOn (put_at file image (λ n. seen_old.disk.reads n)) (puts_to old old.disk.beat)
    agreed_then file image left = (start.start place run at).good.each (put_at file image (λ n. seen_old.disk.reads n)) (choice file image left)

  opening_handled : FleetAreHandled new (numbers runs) (but_the_last taken)
  opening_handled = record {
    commands = λ e has. absurd (not_there e has);
    replies = λ place e read has. absurd (not_there e has);
  }

  opening_of_taken : (run : ℕ) → IsAt (numbers runs) 0 run → FleetIsOfTaken taken (numbers runs) old new
  opening_of_taken first_run at_first = record {
    acts = λ agent is_agent image left.
        let seen : IsLeft (seen_from 0 new).disk agent new.disk.beat image = subst (λ (n : ℕ). IsLeft new.disk n new.disk.beat image) (sym (filter_file 0 agent is_agent.0 is_agent.1)) left in
        let g = agreed_then 0 first_run at_first agent image seen in
        let are : IsActs image (g.acts agent) =
        subst (λ (l : List ℕ). IsActs l (g.acts agent)) (put_at-same agent image (λ (n : ℕ). (seen_from 0 old).disk.reads n)) (g.are_acts agent is_agent) in
        record {
          acts = g.acts agent;
          are = are;
          so = record {
            image = image;
            left = among agent image left;
            before = g.acts agent;
            had = are;
            added = [];
            are = sym (append-nil (g.acts agent));
            of_commands = λ act has. absurd (none_in act has);
          };
        };
    replies = λ place run at image left.
        let g = agreed_then place run at 0 image left in
        let are : IsRecords image g.records = subst (λ (l : List ℕ). IsRecords l g.records) (put_at-same 0 image (λ (n : ℕ). (seen_from place old).disk.reads n)) g.are_records in
        record {
          records = g.records;
          are = are;
          so = record {
            image = image;
            left = among (file_of place) image left;
            before = g.records;
            had = are;
            added = [];
            are = sym (append-nil g.records);
            of_replies = λ r has. absurd (none_in r has);
          };
        };
  }

-- ---- the law

-- a fleet has a first run
pub first_run : (runs : Runs) → AreFleetRuns runs → (run : ℕ) × IsAt (numbers runs) 0 run
first_run runs are = there_at (numbers runs) 0 (many runs are.some)
  where
    many : (l : Runs) → 1 ≤ length l → 1 ≤ length (numbers l)
    many [] some = some
    many (r ∷ l) some = omega arith

module _ (runs : Runs) (most : ℕ) (old new : SiteView) (taken : List (ℕ × Parcel)) (sound_old : IsSound old) (sound : IsSound new) (are : AreFleetRuns runs) (start : IsFleetStart old (numbers runs))
    (went : FleetWent runs most old new) (took : Took old new taken) where
  sound_there : IsSound went.to.site
  sound_there = subst IsSound (sym went.to_is) sound

  took_there : Took old went.to.site taken
  took_there = subst (λ (s : SiteView). Took old s taken) (sym went.to_is) took

  of_taken : FleetIsOfTaken taken (numbers runs) old new
  of_taken = subst (λ (s : SiteView). FleetIsOfTaken taken (numbers runs) old s) went.to_is (is_of_taken runs most old new sound_old are start went sound_there taken took_there)

  closes_handled : (close : FleetClose) → IsFleetClose close went.to → FleetAreHandled new (numbers runs) taken
  closes_handled close closes = subst (λ (s : SiteView). FleetAreHandled s (numbers runs) taken) went.to_is (closed_handled runs most old new sound_old are start went sound_there taken took_there close closes)

  front : FleetAreHandled new (numbers runs) (but_the_last taken)
  front = subst (λ (s : SiteView). FleetAreHandled s (numbers runs) (but_the_last taken)) went.to_is (front_handled runs most old new sound_old are start went sound_there taken took_there)

pub each_fleet_close_handles : EachFleetCloseHandles
each_fleet_close_handles close runs most old new taken sound_old sound are start closed took = (
  closes_handled runs most old new taken sound_old sound are start closed.went took close closed.closes,
  of_taken runs most old new taken sound_old sound are start closed.went took,
)

pub each_fleet_refusal_handles : EachFleetRefusalHandles
each_fleet_refusal_handles error runs most old new taken sound_old sound are start (inl opening) took =
    let one = first_run runs are in
    (opening_handled runs old new taken sound_old start error opening took, opening_of_taken runs old new taken sound_old start error opening took one.0 one.1)
each_fleet_refusal_handles error runs most old new taken sound_old sound are start (inr later) took =
    (front runs most old new taken sound_old sound are start later.went took, of_taken runs most old new taken sound_old sound are start later.went took)
