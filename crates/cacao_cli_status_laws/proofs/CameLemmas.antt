-- A session that closed, and what `run` did: each command that was taken has its act, where the parcels taken are told.
use Rattle.std.proofs.Common.{◌≡◌, ◌⊎◌, inl, inr, refl, subst, ℕ, List, Some}
use Rattle.std.specs.Prelude.{IsTrue}
use Rattle.cacao_site.specs.Sound.{IsSound}
use Rattle.cacao_site.specs.View.{SiteView}
use Rattle.cacao_cli_words.specs.Requests.{RunRequest}
use Rattle.cacao_cli_ends.specs.Asked.{runs}
use Rattle.cacao_cli_status_laws.specs.Ended.{Performs}
use Rattle.cacao_cli_ends.specs.Ends.{End, status_of}
use Rattle.cacao_cli_ends.specs.Comes.{IsOneOf}
use Rattle.cacao_cli_session_laws.specs.Holding.{ClosesSo, RefusesSo}
use Rattle.cacao_cli_ends.specs.Lines.{Tells}
use Rattle.cacao_cli_session_laws.specs.Returning.{ActsOnAll}
use Rattle.cacao_cli_ends.specs.Work.{Start, Work, compares, ends, judges, opens_filter, opens_run, rehearsals, starts, work}
use Rattle.cacao_cli_session_laws.proofs.ActedLemmas.{closes-acted}
use Rattle.cacao_cli_status_laws.proofs.LeaveLemmas.{silent-same}
use Rattle.cacao_cli_ends.proofs.LineLemmas.{IsCutOff, tells-status}
use Rattle.cacao_cli_ends.proofs.ReadLemmas.{Read}
use Rattle.cacao_cli_session_laws.proofs.ReturnedRuns.{sound-reads}
use Rattle.cacao_cli_session_laws.proofs.AlikeLemmas.{alike-behind}
use Rattle.cacao_cli_session_laws.proofs.ReturnTells.{closing, not-closing}
use Rattle.cacao_cli_status_laws.proofs.StartLemmas.{tells-line}
use Rattle.cacao_cli_status_laws.proofs.WithinLemmas.{IsOfRun, work-of-run}
use Rattle.cacao_cli_session_laws.proofs.CameLemmas.{acts-like, error-open, nothing-taken}

module _ (old mid : SiteView) (sound : IsSound mid) (told : IsTrue mid.disk.told) where
  started-acted : (start : Start) (last : End) → Performs (starts start) old mid last → IsOneOf (status_of last) closing → ActsOnAll old mid
  started-acted start last (inl h) one = nothing-taken old mid h.same
  started-acted start last (inr (inl h)) one = nothing-taken old mid h.same
  started-acted start last (inr (inr (inl h))) one = nothing-taken old mid h.same
  started-acted start last (inr (inr (inr (inl h)))) one = by h.holds.held
    where
      by : ClosesSo h.given start.run start.most h.answers old mid last ⊎ RefusesSo h.given start.run start.most h.answers old mid last → ActsOnAll old mid
      by (inl c) = closes-acted h.given start.run start.most h.answers old mid (sound-reads mid sound) told c.closed.went c.close c.closed.closes
      by (inr r) = absurd (error-open r.error (subst (λ (e : End). IsOneOf (status_of e) closing) r.ends one))
  started-acted start last (inr (inr (inr (inr h)))) one = nothing-taken old mid h.same

  work-acted : (most : ℕ) (w : Work) (last : End) → IsOfRun most w → Performs w old mid last → IsOneOf (status_of last) closing → ActsOnAll old mid
  work-acted most (ends lines end) last is p one = nothing-taken old mid (silent-same end old mid last (subst (λ (l : List (List ℕ)). Performs (ends l end) old mid last) is p))
  work-acted most (judges trees mode accepted) last is p one = absurd is
  work-acted most (opens_filter agent look) last is p one = absurd is
  work-acted most opens_run last is p one = absurd is
  work-acted most (compares files) last is p one = absurd is
  work-acted most (rehearsals positions) last is p one = absurd is
  work-acted most (starts start) last is p one = started-acted start last p one

-- what `run` did, up to its last line
pub run-acted : (wanted : RunRequest) (read : Read) (last : End) (old mid new : SiteView) (answer : ℕ) → IsSound mid → IsTrue mid.disk.told
    → Performs (work (Some (runs wanted)) read) old mid last → Tells last mid new answer → IsOneOf answer closing → ActsOnAll old new
run-acted wanted read last old mid new answer sound told p tells one = go (tells-status last mid new answer tells)
  where
    cut : IsCutOff answer → ActsOnAll old new
    cut (inl e) = absurd (not-closing answer 9 refl e one)
    cut (inr (inl e)) = absurd (not-closing answer 10 refl e one)
    cut (inr (inr h)) = absurd h

    go : (answer ≡ status_of last) ⊎ IsCutOff answer → ActsOnAll old new
    go (inl e) = acts-like old mid new (alike-behind mid new (tells-line last mid new answer tells))
        (work-acted old mid sound told wanted.most (work (Some (runs wanted)) read) last (work-of-run wanted read) p (subst (λ (n : ℕ). IsOneOf n closing) e one))
    go (inr c) = cut c
