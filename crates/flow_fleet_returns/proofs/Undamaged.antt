-- Where all agrees for each run of a fleet, none of its files is damaged.
use Rattle.std.proofs.Common.{◌≡◌, inl, inr, ℕ, zero, suc, ◌+◌, ◌≤◌, List, [], ◌∷◌, length, Some, IsTrue, refl, sym, ◌∙◌, subst, ap, arith}
use Rattle.std.specs.Prelude.{slice_get}
use Rattle.cacao_site.specs.DiskCalls.{GoesOn, IsLeft}
use Rattle.cacao_site.specs.RunViews.{rack_file}
use Rattle.cacao_site.specs.Sound.{IsSound}
use Rattle.cacao_site.specs.View.{SiteView}
use Rattle.flow_core_rules.specs.Givens.{Given}
use Rattle.flow_laws.specs.Images.{IsAgent}
use Rattle.flow_laws.proofs.Basics.{same_some}
use Rattle.flow_engine_history.specs.Openings.{IsRefusedOpening}
use Rattle.flow_engine_history.specs.declared.error.EngineError.{EngineError}
use Rattle.flow_engine_history.specs.declared.error.EngineError.TheVariants as engine_error
use Rattle.slpf_actuator.specs.Damage as filter_file
use Rattle.flow_world_steps.specs.Worlds.{Cause, disk_failed, not_said, past, run_used, wants_memory}
use Rattle.flow_world_parts.specs.Errors.{opening_refusal}
use Rattle.flow_world_parts.specs.Openings.{IsFileCause}
use Rattle.flow_world_parts.specs.declared.error.WorldError.{WorldError}
use Rattle.flow_world_parts.specs.declared.error.WorldError.TheVariants as error
use Rattle.flow_world_laws.specs.Undamaged.{ComesOfTexts, GoodIsUndamaged, IsUndamaged}
use Rattle.flow_fleet_laws.specs.Fleets.{IsAt}
use Rattle.flow_fleet_laws.specs.Shrinking.{OnlyShrinks}
use Rattle.flow_fleet_laws.specs.Views.{seen_from}
use Rattle.flow_fleet_laws.proofs.Seen.{sound-seen, views_from_the_first}
use Rattle.flow_fleet_steps.specs.Closes.{IsRefusalFor}
use Rattle.flow_fleet_steps.specs.Errors.{fleet_refusal}
use Rattle.flow_fleet_steps.specs.Openings.{RefusesFilterOf, RefusesJournalAt, Runs, numbers}
use Rattle.flow_fleet_steps.specs.Worlds.{FleetWorld}
use Rattle.flow_fleet_steps.specs.declared.error.FleetError.TheVariants as fleet_error
use Rattle.flow_fleet_steps.proofs.Openings.{openings_shrink}
use Rattle.flow_fleet_returns.specs.Undamaged.{EachAgrees, EachComesOfTexts, NoFleetFindsDamage}

number_at : (runs : Runs) (place run : ℕ) (given : Given) → slice_get runs place ≡ Some (run, given) → IsAt (numbers runs) place run
number_at [] place run given there = absurd (cc)
number_at (r ∷ runs) zero run given there = ap Some (ap (λ (x : ℕ × Given). x.0) (same_some there))
number_at (r ∷ runs) (suc place) run given there = number_at runs place run given there

-- what is told was told before
told_back : (old new : SiteView) → GoesOn old.disk new.disk → IsTrue new.disk.told → IsTrue old.disk.told
told_back old new on told = subst IsTrue on.told told

module _ (undamaged : GoodIsUndamaged) (runs : Runs) (old new : SiteView) (told : IsTrue old.disk.told) (good : EachAgrees runs old) (sound : IsSound old) (sound_then : IsSound new) (only : OnlyShrinks old new) where
  told_then : IsTrue new.disk.told
  told_then = subst IsTrue (sym only.goes_on.told) told

  -- a run's files were not damaged
  whole_for : (place run : ℕ) → IsAt (numbers runs) place run → IsUndamaged (seen_from place old) old.disk.beat
  whole_for place run at = undamaged (seen_from place old) old.disk.beat told (sound-seen place old sound) (omega arith) (good place run at)

  -- what a file reads as is an image that it had
  had : (file : ℕ) → IsLeft old.disk file old.disk.beat (new.disk.reads file)
  had file = only.images file new.disk.beat (new.disk.reads file) only.goes_on.later (omega arith) (sound_then.reads file told_then)

  -- ---- a journal

  journal_whole : (given : Given) (place run file at : ℕ) (middle : SiteView) (why : EngineError) → IsAt (numbers runs) place run → ComesOfTexts given → IsTrue middle.disk.told
      → IsRefusedOpening given run why (seen_from place middle) (seen_from place new) → fleet_error.Damaged file at ≡ fleet_refusal place run (opening_refusal why) → ⊥
  journal_whole given place run file at middle (engine_error.Damaged gate) here texts told_middle (durable, told_by) e =
      (whole_for place run here).opens given run texts (new.disk.reads (rack_file place 0)) gate (had (rack_file place 0)) (told_by told_middle)
  journal_whole given place run file at middle engine_error.Disk here texts told_middle is e = cc
  journal_whole given place run file at middle (engine_error.OtherRun held asked) here texts told_middle is e = cc
  journal_whole given place run file at middle (engine_error.OtherBook index) here texts told_middle is e = cc
  journal_whole given place run file at middle (engine_error.Limit what) here texts told_middle is e = cc
  journal_whole given place run file at middle engine_error.Memory here texts told_middle is e = cc
  journal_whole given place run file at middle engine_error.Broken here texts told_middle is e = absurd is

  journals_whole : (file at : ℕ) → EachComesOfTexts runs → RefusesJournalAt (fleet_error.Damaged file at) runs old new → ⊥
  journals_whole file at texts is = journal_whole is.given is.place is.run file at is.middle is.refuses.why (number_at runs is.place is.run is.given is.there) (texts is.place is.run is.given is.there)
      (told_back (seen_from is.place is.middle) (seen_from is.place new) is.refuses.opens.only.each.goes_on told_then) is.refuses.refused
      (is.is ∙ ap (λ (x : WorldError). fleet_refusal is.place is.run x) is.refuses.is)

  -- ---- a filter's file, which the first run sees

  file_whole : (run file at agent : ℕ) (middle : SiteView) (why : WorldError) → IsAt (numbers runs) 0 run → IsAgent agent → IsTrue middle.disk.told → IsFileCause why agent middle new → fleet_error.Damaged file at ≡ fleet_refusal 0 0 why → ⊥
  file_whole run file at agent middle (error.Damaged other gate) here is_agent told_middle (same, durable, damaged) e =
      let whole : IsUndamaged old old.disk.beat = subst (λ (s : SiteView). IsUndamaged s old.disk.beat) (views_from_the_first old) (whole_for 0 run here) in
      whole.filters agent is_agent (new.disk.reads agent) gate (had agent) (damaged told_middle)
  file_whole run file at agent middle error.Disk here is_agent told_middle is e = cc
  file_whole run file at agent middle (error.OtherRun held asked) here is_agent told_middle is e = absurd is
  file_whole run file at agent middle (error.OtherBook index) here is_agent told_middle is e = absurd is
  file_whole run file at agent middle (error.RunUsed other) here is_agent told_middle is e = absurd is
  file_whole run file at agent middle (error.Limit what) here is_agent told_middle is e = absurd is
  file_whole run file at agent middle error.Say here is_agent told_middle is e = absurd is
  file_whole run file at agent middle error.Memory here is_agent told_middle is e = cc

  files_whole : (run file at : ℕ) → IsAt (numbers runs) 0 run → RefusesFilterOf (fleet_error.Damaged file at) runs old new → ⊥
  files_whole run file at here is = file_whole run file at (is.refuses.agent + 1) is.refuses.middle is.why here
      (let high = is.refuses.high in (omega arith, omega (arith, high))) (told_back is.refuses.middle new is.refuses.refuses.opens.only.each.goes_on told_then) is.refuses.refuses.why is.is

-- no call tells damage once all files are open
later_whole : (file at : ℕ) (w : FleetWorld) (cause : Cause) → IsRefusalFor (fleet_error.Damaged file at) cause w → ⊥
later_whole file at w disk_failed is = cc
later_whole file at w not_said is = cc
later_whole file at w (run_used agent) is = let e = is.has in cc
later_whole file at w (past what) is = cc
later_whole file at w wants_memory is = cc

first_number : (runs : Runs) → 1 ≤ length runs → (run : ℕ) × IsAt (numbers runs) 0 run
first_number [] some = absurd (omega (arith, some))
first_number (r ∷ runs) some = (r.0, refl)

pub no_fleet_finds_damage : GoodIsUndamaged → NoFleetFindsDamage
no_fleet_finds_damage undamaged runs most old new file at some texts told good sound sound_then (inl (inl is)) =
    journals_whole undamaged runs old new told good sound sound_then ((openings_shrink (fleet_error.Damaged file at) runs old new told).1 (inl is)) file at texts is
no_fleet_finds_damage undamaged runs most old new file at some texts told good sound sound_then (inl (inr is)) =
    let first = first_number runs some in
    files_whole undamaged runs old new told good sound sound_then ((openings_shrink (fleet_error.Damaged file at) runs old new told).1 (inr is)) first.0 file at first.1 is
no_fleet_finds_damage undamaged runs most old new file at some texts told good sound sound_then (inr is) = later_whole file at is.went.to is.refuses.cause is.refuses.is
