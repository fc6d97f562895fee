-- Where all agrees no file is damaged, and no session finds damage.
use Rattle.std.proofs.Common.{◌≡◌, inl, inr, ℕ, ◌+◌, ◌≤◌, List, sym, subst, IsTrue, arith}
use Rattle.cacao_site.specs.DiskCalls.{IsLeft}
use Rattle.cacao_site.specs.Sound.{IsSound}
use Rattle.cacao_site.specs.View.{SiteView}
use Rattle.cacao_site.specs.declared.parcel.Parcel.{Parcel}
use Rattle.cacao_site.proofs.Beats.{told-goes_on}
use Rattle.cacao_check.specs.Fits.{FitsKind}
use Rattle.flow_core_rules.specs.Accepted.{Accepted}
use Rattle.flow_core_rules.specs.Givens.{Given}
use Rattle.flow_laws.specs.Good.{AgreeOn, IsChoice, IsGood}
use Rattle.flow_laws.specs.Images.{IsAgent, puts_to}
use Rattle.flow_laws.proofs.Basics.{put_at, put_at-each, put_at-same}
use Rattle.flow_core.specs.SetupLaws.{AcceptedAgain}
use Rattle.flow_core.specs.Setups.{AreAccepted}
use Rattle.flow_world_steps.specs.Openings.{IsRefusedOpening}
use Rattle.flow_world_steps.specs.EngineError.{EngineError}
use Rattle.flow_world_steps.specs.EngineError.TheVariants as engine_error
use Rattle.slpf_actuator.specs.Damage as filter_file
use Rattle.flow_engine_reports.specs.RunFiles as run_file
use Rattle.flow_world_steps.specs.Worlds.{Cause, disk_failed, not_said, run_used, past, wants_memory}
use Rattle.flow_world.specs.Closes.{refusal_of}
use Rattle.flow_world.specs.Errors.{opening_refusal}
use Rattle.flow_world.specs.Openings.{IsFileCause, RefusesOpening}
use Rattle.flow_world.specs.WorldError.TheVariants as error
use Rattle.flow_world_laws.specs.Undamaged.{ComesOfTexts, GoodIsUndamaged, IsDamagedFor, NoneFindsDamage}
use Rattle.flow_world_laws.proofs.Opening.{OnlyOpens, opens_refused}
use Rattle.flow_world_laws.proofs.WholeActs.{acts_undamaged}
use Rattle.flow_world_laws.proofs.WholeRuns.{report_undamaged, run_undamaged}

pub accepted_as_given : AcceptedAgain → (given : Given) → ComesOfTexts given → Accepted AreAccepted FitsKind given.texts given.bind given
accepted_as_given again given is = again is.texts is.bind given is.accepted

-- ---- images that agree

module _ (choice : ℕ → List ℕ) (puts : List (ℕ × Parcel)) (are : AgreeOn choice puts) where
  filter_whole : (agent place : ℕ) → IsAgent agent → filter_file.IsDamaged (choice agent) place → ⊥
  filter_whole agent place is_agent damaged = acts_undamaged (choice agent) (are.acts agent) place (are.are_acts agent is_agent) (are.agree.acts_once agent is_agent) damaged

  report_whole : (place : ℕ) → run_file.IsDamaged (choice 0) place → ⊥
  report_whole place damaged = report_undamaged (choice 0) are.records place are.are_records are.agree.is_run damaged

  run_whole : (given : Given) (run place : ℕ) → Accepted AreAccepted FitsKind given.texts given.bind given → IsDamagedFor given run (choice 0) place → ⊥
  run_whole given run place accepted damaged = run_undamaged given run (choice 0) are.records place are.are_records are.agree.is_run accepted damaged

-- ---- the files of a site

module _ (site : SiteView) (beat : ℕ) (told : IsTrue site.disk.told) (sound : IsSound site) (past_ : beat ≤ site.disk.beat) (good : IsGood site beat) where
  -- this image of a file, and one of each other file
  chosen : ℕ → List ℕ → ℕ → List ℕ
  chosen file image = put_at file image (λ other. (sound.images other beat told past_).0)

  is_choice : (file : ℕ) (image : List ℕ) → IsLeft site.disk file beat image → IsChoice site beat (chosen file image)
  unfolding chosen
  is_choice file image left k le = put_at-each (λ (n : ℕ) (x : List ℕ). IsLeft site.disk n beat x) file image (λ other. (sound.images other beat told past_).0) k
      (λ e. subst (λ (n : ℕ). IsLeft site.disk n beat image) (sym e) left) (λ ne. (sound.images k beat told past_).1)

  agree_with : (file : ℕ) (image : List ℕ) → IsLeft site.disk file beat image → AgreeOn (chosen file image) (puts_to site beat)
  agree_with file image left = good.each (chosen file image) (is_choice file image left)

  chosen_is : (file : ℕ) (image : List ℕ) → chosen file image file ≡ image
  unfolding chosen
  chosen_is file image = put_at-same file image (λ other. (sound.images other beat told past_).0)

pub good_is_undamaged : AcceptedAgain → GoodIsUndamaged
good_is_undamaged again site beat told sound past_ good = record {
  filters = λ agent is_agent image place left damaged. filter_whole (chosen site beat told sound past_ good agent image) (puts_to site beat)
      (agree_with site beat told sound past_ good agent image left) agent place is_agent
      (subst (λ (x : List ℕ). filter_file.IsDamaged x place) (sym (chosen_is site beat told sound past_ good agent image)) damaged);
  reports = λ image place left damaged. report_whole (chosen site beat told sound past_ good 0 image) (puts_to site beat)
      (agree_with site beat told sound past_ good 0 image left) place
      (subst (λ (x : List ℕ). run_file.IsDamaged x place) (sym (chosen_is site beat told sound past_ good 0 image)) damaged);
  opens = λ given run accepted image place left damaged. run_whole (chosen site beat told sound past_ good 0 image) (puts_to site beat)
      (agree_with site beat told sound past_ good 0 image left) given run place (accepted_as_given again given accepted)
      (subst (λ (x : List ℕ). IsDamagedFor given run x place) (sym (chosen_is site beat told sound past_ good 0 image)) damaged);
}

-- ---- sessions

-- what the files read as once some were opened are images that agreed
pub reads_agree : (old new : SiteView) → IsTrue old.disk.told → IsGood old old.disk.beat → IsSound new → OnlyOpens old new → AgreeOn new.disk.reads (puts_to old old.disk.beat)
reads_agree old new told good sound opens =
    good.each new.disk.reads (λ file le. opens.among told file (new.disk.reads file) (sound.reads file (told-goes_on opens.on told)))

no_journal_damage : (given : Given) (run : ℕ) (old new : SiteView) (file place : ℕ) → IsTrue old.disk.told → AgreeOn new.disk.reads (puts_to old old.disk.beat) → Accepted AreAccepted FitsKind given.texts given.bind given
    → (why : EngineError) → IsRefusedOpening given run why old new → error.Damaged file place ≡ opening_refusal why → ⊥
no_journal_damage given run old new file place told are accepted (engine_error.Damaged at_) (durable, told_by) e = run_whole new.disk.reads (puts_to old old.disk.beat) are given run at_ accepted (told_by told)
no_journal_damage given run old new file place told are accepted engine_error.Disk rose e = cc
no_journal_damage given run old new file place told are accepted (engine_error.OtherRun held asked) told_by e = cc
no_journal_damage given run old new file place told are accepted (engine_error.OtherBook index) told_by e = cc
no_journal_damage given run old new file place told are accepted (engine_error.Limit what) told_by e = cc
no_journal_damage given run old new file place told are accepted engine_error.Memory free e = cc
no_journal_damage given run old new file place told are accepted engine_error.Broken never e = absurd never

damage_of : (file place agent : ℕ) (mid new : SiteView) → IsTrue mid.disk.told → IsFileCause (error.Damaged file place) agent mid new → filter_file.IsDamaged (new.disk.reads agent) place
damage_of file place agent mid new told (same, durable, damaged) = damaged told

no_opening_damage : (given : Given) (run : ℕ) (old new : SiteView) (file place : ℕ) → IsTrue old.disk.told → AgreeOn new.disk.reads (puts_to old old.disk.beat) → Accepted AreAccepted FitsKind given.texts given.bind given
    → RefusesOpening (error.Damaged file place) given run old new → ⊥
no_opening_damage given run old new file place told are accepted (inl r) = no_journal_damage given run old new file place told are accepted r.why r.refused r.is
no_opening_damage given run old new file place told are accepted (inr r) =
    let f = r.refuses in
    let on = told-goes_on f.before.goes_on (told-goes_on r.journal.opens.only.each.goes_on told) in
    let high = f.high in
    filter_whole new.disk.reads (puts_to old old.disk.beat) are (f.agent + 1) place (omega arith, omega (arith, high)) (damage_of file place (f.agent + 1) f.middle new on f.refuses.why)

no_later_damage : (file place : ℕ) (cause : Cause) → error.Damaged file place ≡ refusal_of cause → ⊥
no_later_damage file place disk_failed e = cc
no_later_damage file place not_said e = cc
no_later_damage file place (run_used agent) e = cc
no_later_damage file place (past what) e = cc
no_later_damage file place wants_memory e = cc

pub none_finds_damage : AcceptedAgain → NoneFindsDamage
none_finds_damage again given run most answers old new file place accepted told good sound (inl r) =
    no_opening_damage given run old new file place told (reads_agree old new told good sound (opens_refused (error.Damaged file place) given run old new r)) (accepted_as_given again given accepted) r
none_finds_damage again given run most answers old new file place accepted told good sound (inr r) = no_later_damage file place r.refuses.cause r.refuses.is
