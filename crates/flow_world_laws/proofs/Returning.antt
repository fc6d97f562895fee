-- The file of a session that closed reads as a run that tells how.
use Rattle.std.proofs.Common.{◌≡◌, ℕ, List, [], ◌∷◌, refl, sym, ◌∙◌, subst, ap, ap₂}
use Rattle.std.specs.Prelude.{IsTrue}
use Rattle.cacao_site.specs.Sound.{IsSound}
use Rattle.cacao_site.specs.View.{SiteView}
use Rattle.run_records.specs.declared.record.Record.{Record}
use Rattle.flow_core_rules.specs.Givens.{Given}
use Rattle.flow_core_rules.specs.Runs.{Leads}
use Rattle.flow_core_rules.specs.State.{Shown, shown}
use Rattle.flow_core_rules.proofs.RunLemmas.{run_one}
use Rattle.flow_core.specs.Views.{blank_shown}
use Rattle.flow_laws.specs.Images.{IsRecords}
use Rattle.flow_laws.proofs.OneList.{same_records}
use Rattle.flow_world_steps.specs.Histories.{IsSoFar}
use Rattle.flow_engine_answers.specs.declared.answers.OperatorAnswer.{OperatorAnswer}
use Rattle.flow_world_steps.specs.Sides.{IsWhole}
use Rattle.flow_world_steps.specs.Worlds.{Notes, Phase, IsGoing, looked, rests}
use Rattle.flow_world_steps.proofs.Records.{has_records}
use Rattle.flow_world_steps.proofs.Standing.{steps_stand}
use Rattle.flow_world.specs.Sessions.{HasClosed, Went}
use Rattle.flow_world.specs.Close.{Close}
use Rattle.flow_world.specs.Close.TheVariants as close
use Rattle.flow_world_laws.specs.Ends.{EndsInTurn}
use Rattle.flow_world_laws.specs.Returned.{EachClosesOnRun, ReadsAsOneRun, ReadsAsRun}
use Rattle.flow_world_laws.proofs.Closing.{steps_end_in_turn}

-- ---- one run

same_after : (records : List Record) (a b : Shown) → a.given ≡ b.given → a.run ≡ b.run → IsSoFar records a → IsSoFar records b → a ≡ b
same_after [] a b given run x y = x ∙ ap₂ blank_shown given run ∙ sym y
same_after (r ∷ rs) a b given run x y =
    let leads : Leads b.given b.run (r ∷ rs) x.state =
    subst (λ (g : Given). Leads g b.run (r ∷ rs) x.state) given (subst (λ (n : ℕ). Leads a.given n (r ∷ rs) x.state) run x.leads) in
    x.is ∙ ap shown (run_one b.given b.run (r ∷ rs) x.state y.state leads y.leads) ∙ sym y.is

pub reads_as_one_run : ReadsAsOneRun
reads_as_one_run given run site a b x y =
    let records : x.records ≡ y.records = same_records (site.disk.reads 0) x.records y.records x.reads y.reads in
    same_after y.records a b (x.given_is ∙ sym y.given_is) (x.of_run ∙ sym y.of_run) (subst (λ (l : List Record). IsSoFar l a) records x.so_far) y.so_far

-- ---- the file of a session that closed

going_at : (p q : Phase) → p ≡ q → IsGoing q → IsGoing p
going_at p q e going = subst IsGoing (sym e) going

reads_run : (given : Given) (run most : ℕ) (answers : List OperatorAnswer) (old new : SiteView) (went : Went given run most answers old new) → IsGoing went.to.phase
    → IsSound new → IsTrue new.disk.told → ReadsAsRun given run new went.to.engine.history.seen
reads_run given run most answers old new went going sound told =
    let w = went.to in
    let whole : IsWhole w.engine w.site = (steps_stand went.start w (record { engine = went.begins.whole; filters = went.begins.filters }) went.steps going).engine in
    let same : w.site ≡ new = went.to_is in
    let there : IsSound w.site = subst IsSound (sym same) sound in
    let told_there : IsTrue w.site.disk.told = subst (λ (s : SiteView). IsTrue s.disk.told) (sym same) told in
    record {
      records = w.engine.history.records;
      reads = subst (λ (s : SiteView). IsRecords (s.disk.reads 0) w.engine.history.records) same
          (has_records w.engine w.site whole told_there (w.site.disk.reads 0) (there.reads 0 told_there));
      so_far = whole.engine.history.so_far;
      given_is = went.sums.given.given ∙ went.begins.given_is;
      of_run = went.sums.given.run ∙ went.begins.of_run;
    }

ends_in_turn : (how : Close) (given : Given) (run most : ℕ) (answers : List OperatorAnswer) (old new : SiteView) (closed : HasClosed how given run most answers old new)
    → EndsInTurn how closed.went.start closed.went.to
ends_in_turn how given run most answers old new closed =
    let went = closed.went in
    steps_end_in_turn went.start went.to went.begins.phase (ap (λ (n : Notes). n.ignored) went.begins.notes) went.steps how closed.closes

pub closes_on_run : EachClosesOnRun
closes_on_run (close.Ended well) given run most answers old new closed no_wait sound told = record {
  seen = closed.went.to.engine.history.seen;
  reads = reads_run given run most answers old new closed.went (going_at closed.went.to.phase rests closed.closes.turn.phase tt) sound told;
  tells = closed.closes.outcome_is;
}
closes_on_run close.Paused given run most answers old new closed no_wait sound told = record {
  seen = closed.went.to.engine.history.seen;
  reads = reads_run given run most answers old new closed.went (going_at closed.went.to.phase rests closed.closes.turn.phase tt) sound told;
  tells = closed.closes.goes_on;
}
closes_on_run (close.Waiting moment) given run most answers old new closed no_wait sound told = absurd (no_wait moment refl)
closes_on_run close.Flooded given run most answers old new closed no_wait sound told = record {
  seen = closed.went.to.engine.history.seen;
  reads = reads_run given run most answers old new closed.went (going_at closed.went.to.phase rests closed.closes.phase tt) sound told;
  tells = (ends_in_turn close.Flooded given run most answers old new closed).goes_on;
}
closes_on_run (close.Asked issue) given run most answers old new closed no_wait sound told = record {
  seen = closed.went.to.engine.history.seen;
  reads = reads_run given run most answers old new closed.went (going_at closed.went.to.phase looked closed.closes.untold.idle.has_looked.phase tt) sound told;
  tells = ((ends_in_turn (close.Asked issue) given run most answers old new closed).may.goes_on, closed.closes.nothing_due, closed.closes.least);
}
