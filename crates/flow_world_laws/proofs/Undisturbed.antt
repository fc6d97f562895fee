-- How far a session comes that nothing disturbs.
use Rattle.std.proofs.Common.{◌≡◌, inl, inr, ℕ, ◌≤◌, Bool, List, sym, ◌∙◌, subst, ap, arith}
use Rattle.cacao_site.specs.Counts.{DidNotRise, Rose, next_count}
use Rattle.cacao_site.specs.Sound.{IsSound}
use Rattle.cacao_site.specs.View.{ClockView, CountsView, SiteView}
use Rattle.flow_core.specs.SetupLaws.{AcceptedAgain}
use Rattle.flow_core_rules.specs.Givens.{Given}
use Rattle.flow_world_steps.specs.Openings.{IsRefusedOpening}
use Rattle.flow_engine_answers.specs.declared.answers.OperatorAnswer.{OperatorAnswer}
use Rattle.flow_world_steps.specs.EngineError.{EngineError}
use Rattle.flow_world_steps.specs.EngineError.TheVariants as engine_error
use Rattle.flow_world_steps.specs.Causes.{Shows}
use Rattle.flow_world_steps.specs.Worlds.{Cause, Phase, refused, disk_failed, not_said, run_used, past, waits, wants_memory}
use Rattle.flow_world.specs.Closes.{refusal_of}
use Rattle.flow_world.specs.Errors.{opening_refusal}
use Rattle.flow_world.specs.Openings.{RefusesOpening}
use Rattle.flow_world.specs.Sessions.{HasClosed, HasRefused, IsStart, Went}
use Rattle.flow_world.specs.Close.{Close}
use Rattle.flow_world.specs.Close.TheVariants as close
use Rattle.flow_world.specs.WorldError.{WorldError}
use Rattle.flow_world.specs.WorldError.TheVariants as error
use Rattle.flow_world_laws.specs.Complete.{EndsSo, IsForThisRun, IsUndisturbed, StopsSo, UndisturbedCompletes}
use Rattle.flow_world_laws.specs.Undamaged.{ComesOfTexts}
use Rattle.flow_world_laws.proofs.Closing.{steps_count_shorts}
use Rattle.flow_world_laws.proofs.NoOther.{none_finds_another}
use Rattle.flow_world_laws.proofs.Opening.{opens_all}
use Rattle.flow_world_laws.proofs.Undamaged.{none_finds_damage}

risen : (old mid new : ℕ) → old ≤ mid → Rose mid new → DidNotRise old new → ⊥
risen old mid new le rose still_ = omega (arith, le, rose, still_.0, still_.1)

counted : (old new : ℕ) → new ≡ next_count old → DidNotRise old new → ⊥
counted old new e still_ = omega (arith, e, still_.0, still_.1)

-- ---- closes

module _ (given : Given) (run most : ℕ) (answers : List OperatorAnswer) (old new : SiteView) (calm : IsUndisturbed old new) where
  clock_then : (went : Went given run most answers old new) → went.start.site.clock ≡ old.clock
  clock_then went = went.files.others.rest.clock ∙ went.files.journal.opens.only.rest.clock

  counts_then : (went : Went given run most answers old new) → went.start.site.counts ≡ old.counts
  counts_then went = went.files.others.rest.counts ∙ went.files.journal.opens.only.rest.counts

  waits_not : (went : Went given run most answers old new) (moment : ℕ) → went.to.phase ≡ waits moment → ⊥
  waits_not went moment phase =
      let one : went.to.site.clock.shorts ≡ next_count went.start.site.clock.shorts = (steps_count_shorts went.start went.to went.begins.phase went.steps).counts moment phase in
      let then_ = ap (λ (c : ClockView). c.shorts) (clock_then went) in
      let now = ap (λ (s : SiteView). s.clock.shorts) went.to_is in
      counted old.clock.shorts new.clock.shorts (sym now ∙ one ∙ ap next_count then_) calm.shorts

  closes_so : (how : Close) → HasClosed how given run most answers old new → EndsSo how
  closes_so (close.Ended well) closed = tt
  closes_so close.Paused closed = tt
  closes_so (close.Waiting moment) closed = absurd (waits_not closed.went moment closed.closes)
  closes_so close.Flooded closed = tt
  closes_so (close.Asked issue) closed = tt

  -- ---- faults

  journal_fault : (why : EngineError) → IsRefusedOpening given run why old new → error.Disk ≡ opening_refusal why → ⊥
  journal_fault engine_error.Disk rose e = let faults = calm.faults in risen old.disk.faults old.disk.faults new.disk.faults (omega arith) rose faults
  journal_fault (engine_error.Damaged place) is e = cc
  journal_fault (engine_error.OtherRun held asked) is e = cc
  journal_fault (engine_error.OtherBook index) is e = cc
  journal_fault (engine_error.Limit what) is e = cc
  journal_fault engine_error.Memory is e = cc
  journal_fault engine_error.Broken is e = absurd is

  opening_fault : RefusesOpening error.Disk given run old new → ⊥
  opening_fault (inl r) = journal_fault r.why r.refused r.is
  opening_fault (inr r) =
      let f = r.refuses in
      let one = r.journal.opens.only.each.goes_on.faults in
      let two = f.before.goes_on.faults in
      risen old.disk.faults f.middle.disk.faults new.disk.faults (omega (arith, one, two)) f.refuses.why calm.faults

  later_fault : (went : Went given run most answers old new) (cause : Cause) (lacks : Bool) → went.to.phase ≡ refused cause lacks → error.Disk ≡ refusal_of cause → ⊥
  later_fault went disk_failed lacks phase e =
      let rose : Rose went.start.site.disk.faults went.to.site.disk.faults = subst (λ (p : Phase). Shows p went.start went.to) phase went.cause.shows in
      let now = ap (λ (s : SiteView). s.disk.faults) went.to_is in
      let opens = (opens_all given run old went.start.site went.start.engine went.start.filters went.files).on.faults in
      risen old.disk.faults went.start.site.disk.faults new.disk.faults opens (subst (λ (n : ℕ). Rose went.start.site.disk.faults n) now rose) calm.faults
  later_fault went not_said lacks phase e = cc
  later_fault went (run_used agent) lacks phase e = cc
  later_fault went (past what) lacks phase e = cc
  later_fault went wants_memory lacks phase e = cc

  -- ---- lines that were not said

  journal_unsaid : (why : EngineError) → error.Say ≡ opening_refusal why → ⊥
  journal_unsaid engine_error.Disk e = cc
  journal_unsaid (engine_error.Damaged place) e = cc
  journal_unsaid (engine_error.OtherRun held asked) e = cc
  journal_unsaid (engine_error.OtherBook index) e = cc
  journal_unsaid (engine_error.Limit what) e = cc
  journal_unsaid engine_error.Memory e = cc
  journal_unsaid engine_error.Broken e = cc

  opening_unsaid : RefusesOpening error.Say given run old new → ⊥
  opening_unsaid (inl r) = journal_unsaid r.why r.is
  opening_unsaid (inr r) = r.refuses.refuses.why

  later_unsaid : (went : Went given run most answers old new) (cause : Cause) (lacks : Bool) → went.to.phase ≡ refused cause lacks → error.Say ≡ refusal_of cause → ⊥
  later_unsaid went not_said lacks phase e =
      let shows = subst (λ (p : Phase). Shows p went.start went.to) phase went.cause.shows in
      let then_ = ap (λ (c : CountsView). c.unsaid) (counts_then went) in
      let now = ap (λ (s : SiteView). s.counts.unsaid) went.to_is in
      risen old.counts.unsaid went.start.site.counts.unsaid new.counts.unsaid (omega (arith, then_)) (subst (λ (n : ℕ). Rose went.start.site.counts.unsaid n) now shows.0) calm.unsaid
  later_unsaid went disk_failed lacks phase e = cc
  later_unsaid went (run_used agent) lacks phase e = cc
  later_unsaid went (past what) lacks phase e = cc
  later_unsaid went wants_memory lacks phase e = cc

  -- ---- refusals

  module _ (again : AcceptedAgain) (accepted : ComesOfTexts given) (start : IsStart old run) (this : IsForThisRun given run old) (sound : IsSound new) where
    refuses_so : (error : WorldError) → HasRefused error given run most answers old new → StopsSo error
    refuses_so error.Memory r = tt
    refuses_so (error.Limit what) r = tt
    refuses_so error.Disk (inl r) = opening_fault r
    refuses_so error.Disk (inr r) = later_fault r.went r.refuses.cause r.refuses.lacks r.refuses.phase r.refuses.is
    refuses_so error.Say (inl r) = opening_unsaid r
    refuses_so error.Say (inr r) = later_unsaid r.went r.refuses.cause r.refuses.lacks r.refuses.phase r.refuses.is
    refuses_so (error.Damaged file place) r = none_finds_damage again given run most answers old new file place accepted start.told start.start.good sound r
    refuses_so (error.OtherRun held asked) r = none_finds_another (error.OtherRun held asked) given run most answers old new tt start.told start.fresh this sound r
    refuses_so (error.OtherBook index) r = none_finds_another (error.OtherBook index) given run most answers old new tt start.told start.fresh this sound r
    refuses_so (error.RunUsed agent) r = none_finds_another (error.RunUsed agent) given run most answers old new tt start.told start.fresh this sound r

pub completes : AcceptedAgain → UndisturbedCompletes
completes again given run most answers old new accepted start this sound calm =
    (closes_so given run most answers old new calm, refuses_so given run most answers old new calm again accepted start this sound)
