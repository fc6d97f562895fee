-- Where a session waits in a turn, no move is enabled, and no issue that waits has an answer.
use Rattle.std.proofs.Common.{◌≡◌, ◌≢◌, ◌⊎◌, inl, inr, ◌∙◌, refl, sym, ap, subst, arith, ℕ, ◌<◌, List, true, Option, Some, None}
use Rattle.std.specs.Prelude.{slice_get}
use Rattle.cacao_site.specs.View.{SiteView}
use Rattle.flow_core.specs.SetupLaws.{AcceptedIsRunnable}
use Rattle.flow_core_rules.specs.Changes.{is_in_time, is_waiting}
use Rattle.flow_core_rules.specs.Givens.{Given}
use Rattle.flow_core_rules.specs.Moves.{due, enabled_move}
use Rattle.flow_core_rules.specs.declared.issues.Issue.{Issue}
use Rattle.flow_engine_answers.specs.declared.answers.OperatorAnswer.{OperatorAnswer}
use Rattle.flow_engine.specs.EngineView.{EngineView}
use Rattle.flow_world_steps.specs.Causes.{AskedLast, IsResendNear}
use Rattle.flow_world_steps.specs.Turns.{HasAnswer, IsUntold, answer_for}
use Rattle.flow_world_steps.specs.Unbroken.{IsJournalSure}
use Rattle.flow_world_steps.specs.Worlds.{IsGoing, Notes, Phase, World, looked, opened}
use Rattle.flow_world_steps.proofs.DueLater.{sane_engine}
use Rattle.flow_world_steps.proofs.Timely.{opened_in_time, steps_in_time}
use Rattle.flow_world.specs.Sessions.{Went}
use Rattle.flow_world_laws.specs.Ends.{IsInTurn}
use Rattle.cacao_cli_session_laws.proofs.IdleLemmas.{no-move-before}

pub looked-going : (p : Phase) → p ≡ looked → IsGoing p
looked-going p e = subst IsGoing (sym e) tt

pub looked-not : (p : Phase) → p ≡ looked → p ≢ opened
looked-not p e f = apart (sym e ∙ f)
  where
    apart : looked ≡ opened → ⊥
    apart h = cc

some-moment : (x y : ℕ) → Some x ≡ Some y → x ≡ y
some-moment x y e = cc

module _ (given : Given) (run most : ℕ) (answers : List OperatorAnswer) (old mid : SiteView) (went : Went given run most answers old mid) where
  -- the answers are those that were given
  pub answers-given : went.to.notes.answers ≡ answers
  answers-given = went.sums.given.answers ∙ ap (λ (n : Notes). n.answers) went.begins.notes

  -- no issue that waits has an answer
  pub none-answers : (w : World) → w.notes.answers ≡ answers → IsUntold w → (issue : ℕ) (it : Issue) → slice_get w.engine.history.seen.lists.issues issue ≡ Some it → is_waiting it.phase ≡ true
      → answer_for answers issue ≡ None
  none-answers w same untold issue it there waits = go (answer_for answers issue) refl
    where
      has : (told : OperatorAnswer) → Some told ≡ answer_for answers issue → HasAnswer w issue told
      has told e = record { it = it; there = there; waits = waits; first = subst (λ (l : List OperatorAnswer). answer_for l issue ≡ Some told) (sym same) (sym e) }

      go : (o : Option OperatorAnswer) → o ≡ answer_for answers issue → answer_for answers issue ≡ None
      go None e = sym e
      go (Some told) e = absurd (untold.none issue told (has told e))

  -- ---- where the clock was asked in a turn

  module _ (moment : ℕ) (last : AskedLast went.start went.to moment) where
    untold : IsUntold last.old
    untold = last.asks.next.up_to_date.on_time.untold

    engine : last.old.engine ≡ went.to.engine
    engine = sym last.asks.goes.sides.engine

    pub waits-unanswered : (issue : ℕ) (it : Issue) → slice_get went.to.engine.history.seen.lists.issues issue ≡ Some it → is_waiting it.phase ≡ true → answer_for answers issue ≡ None
    waits-unanswered issue it there waits =
        none-answers last.old (sym (ap (λ (n : Notes). n.answers) last.asks.goes.notes) ∙ answers-given) untold issue it
        (subst (λ (v : EngineView). slice_get v.history.seen.lists.issues issue ≡ Some it) (sym engine) there) waits

    timely : is_in_time went.to.engine.history.seen last.old.site.clock.now ≡ true
    timely =
        let phase = untold.idle.has_looked.phase in
        subst (λ (v : EngineView). is_in_time v.history.seen last.old.site.clock.now ≡ true) engine
        (steps_in_time went.start last.old (opened_in_time went.start went.begins.phase) last.before (looked-going last.old.phase phase) (looked-not last.old.phase phase))

    pub waits-idle : AcceptedIsRunnable → IsJournalSure went.to → IsInTurn went.to → mid.clock.now < moment → enabled_move went.to.engine.history.seen mid.clock.now ≡ None
    waits-idle runnable sure turn short =
        no-move-before went.to.engine.history.seen last.old.site.clock.now mid.clock.now
        (sane_engine runnable went.to.engine.history sure.whole.engine.history turn.may.begun) turn.may.goes_on timely
        (subst (λ (v : EngineView). enabled_move v.history.seen last.old.site.clock.now ≡ None) engine untold.idle.no_move) before
      where
        by : (at : ℕ) → due went.to.engine.history.seen ≡ Some at → (due went.to.engine.history.seen ≡ Some moment) ⊎ IsResendNear went.to moment → mid.clock.now < at
        by at is (inl due_is) = let same : at ≡ moment = some-moment at moment (sym is ∙ due_is) in omega (arith, same, short)
        by at is (inr near) =
            let same : at ≡ near.at = some-moment at near.at (sym is ∙ near.due_is) in
            let early = near.early in
            omega (arith, same, early, short)

        before : (at : ℕ) → due went.to.engine.history.seen ≡ Some at → mid.clock.now < at
        before at is = by at is (last.what went.begins.no_puts)
