-- What the status of `run` and the engine's file tell of each other on return.
use Rattle.std.proofs.Common.{◌≡◌, ◌⊎◌, inl, inr, ◌∙◌, ap, subst, ℕ, ◌≤◌, Bool}
use Rattle.std.specs.Prelude.{IsTrue}
use Rattle.cacao_site.specs.View.{SiteView}
use Rattle.cacao_cli_ends.specs.Ends.{End, status_of}
use Rattle.cacao_cli_session.specs.Holding.{ClosesSo, HoldsSession, RefusesSo}
use Rattle.cacao_cli_ends.specs.Lines.{SaysAtMostALine}
use Rattle.cacao_cli_session_laws.specs.Returning.{ReturnsSo}
use Rattle.cacao_cli_ends.specs.Work.{Start}
use Rattle.cacao_cli_session_laws.proofs.AlikeLemmas.{alike-behind, returns-there}
use Rattle.cacao_cli_session_laws.proofs.ReturnCloses.{closed}
use Rattle.cacao_cli_session_laws.proofs.ReturnedRuns.{ReadsImages}
use Rattle.cacao_cli_session_laws.proofs.ReturnRefusals.{refused-so}

-- ---- the call

pub told-before : (mid new : SiteView) → SaysAtMostALine mid new → IsTrue new.disk.told → IsTrue mid.disk.told
told-before mid new (inl is) told = subst (λ (s : SiteView). IsTrue s.disk.told) is told
told-before mid new (inr says) told = subst (λ (b : Bool). IsTrue b) says.disk.goes_on.told told

module _ (start : Start) (old mid new : SiteView) (sound : ReadsImages mid) (behind : SaysAtMostALine mid new) (told : IsTrue new.disk.told) (some : 1 ≤ start.most) where
  told-mid : IsTrue mid.disk.told
  told-mid = told-before mid new behind told

  -- a session that was held
  pub session-returns : (last : End) (answer : ℕ) → HoldsSession start old mid last → answer ≡ status_of last → ReturnsSo start old new answer
  session-returns last answer h is = returns-there start old mid new answer (alike-behind mid new behind) (go h.holds.held)
    where
      go : ClosesSo h.given start.run start.most h.answers old mid last ⊎ RefusesSo h.given start.run start.most h.answers old mid last → ReturnsSo start old mid answer
      go (inl c) = closed start old mid sound told-mid h.given h.accepted some h.answers h.are c.close answer (is ∙ ap status_of c.ends) c.closed
      go (inr r) = refused-so start old mid sound told-mid h.given h.accepted some h.answers h.are r.error answer (is ∙ ap status_of r.ends) r.why
