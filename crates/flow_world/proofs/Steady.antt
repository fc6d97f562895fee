-- No end of a session hides a fault of the disk.
use Rattle.std.proofs.Common.{◌≡◌, ◌≢◌, inl, inr, ℕ, Bool, List, refl, sym, ◌∙◌, ap}
use Rattle.std.specs.Prelude.{Result, Ok, Err, IfOk, IfErr}
use Rattle.cacao_site.specs.View.{SiteView}
use Rattle.flow_engine_answers.specs.declared.answers.OperatorAnswer.{OperatorAnswer}
use Rattle.flow_core_rules.specs.Givens.{Given}
use Rattle.flow_world_parts.specs.Worlds.{Cause, disk_failed, refused}
use Rattle.flow_world_parts.proofs.Steady.{steps_steady}
use Rattle.flow_world_parts.specs.Closes.{refusal_of}
use Rattle.flow_world.specs.Laws.{ClosesAreSteady, RefusalsAreSteady}
use Rattle.flow_world.specs.Sessions.{HasClosed, HasRefused, Went}
use Rattle.flow_world_parts.specs.declared.close.Close.{Close}
use Rattle.flow_world_parts.specs.declared.error.WorldError.{WorldError}
use Rattle.flow_world_parts.specs.declared.error.WorldError.TheVariants as world_error
use Rattle.flow_world.proofs.CloseLemmas.{closes_are_no_refusals}

same_cause : (one other : Cause) (lacks lacked : Bool) → refused one lacks ≡ refused other lacked → one ≡ other
same_cause one other lacks lacked e = cc

went_steady : (given : Given) (run most : ℕ) (answers : List OperatorAnswer) (old new : SiteView) (w : Went given run most answers old new)
    → ((lacks : Bool) → w.to.phase ≢ refused disk_failed lacks) → new.disk.faults ≡ old.disk.faults
went_steady given run most answers old new w other =
    ap (λ (s : SiteView). s.disk.faults) (sym w.to_is) ∙ steps_steady w.start w.to w.steps other ∙ w.files.others.steady ∙ w.files.journal.steady

pub closes_steady : ClosesAreSteady
closes_steady close given run most answers old new is =
    went_steady given run most answers old new is.went
    (λ lacks e. closes_are_no_refusals is.went.to close world_error.Disk is.closes (record { cause = disk_failed; lacks = lacks; phase = e; is = refl }))

pub refusals_steady : RefusalsAreSteady
refusals_steady error given run most answers old new (inl (inl journal)) other = journal.steady other
refusals_steady error given run most answers old new (inl (inr second)) other =
    second.refuses.refuses.steady other ∙ second.refuses.before.steady ∙ second.journal.steady
refusals_steady error given run most answers old new (inr later) other =
    went_steady given run most answers old new later.went
    (λ lacks e. other (later.refuses.is ∙ ap refusal_of (same_cause later.refuses.cause disk_failed later.refuses.lacks lacks (sym later.refuses.phase ∙ e))))

-- whatever a session answered
pub session_steady : (given : Given) (run most : ℕ) (answers : List OperatorAnswer) (old new : SiteView) (result : Result Close WorldError)
    → IfOk result (λ close. HasClosed close given run most answers old new) → IfErr result (λ error. HasRefused error given run most answers old new)
    → result ≢ Err world_error.Disk → new.disk.faults ≡ old.disk.faults
session_steady given run most answers old new (Ok close) closed refused_so other = closes_steady close given run most answers old new closed
session_steady given run most answers old new (Err error) closed refused_so other =
    refusals_steady error given run most answers old new refused_so (λ e. other (ap (λ (x : WorldError). Err x) e))
