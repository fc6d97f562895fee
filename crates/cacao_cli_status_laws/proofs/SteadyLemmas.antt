-- No status but 8 and 9 hides a fault of the disk.
use Rattle.std.proofs.Common.{◌≡◌, ◌⊎◌, inl, inr, ◌∙◌, ap, subst, ℕ, List, Option}
use Rattle.std.proofs.lemmas.Bool.{true≢false}
use Rattle.cacao_site.specs.View.{SiteView}
use Rattle.flow_engine_answers.specs.declared.answers.OperatorAnswer.{OperatorAnswer}
use Rattle.flow_core_rules.specs.Givens.{Given}
use Rattle.flow_world.proofs.Steady.{closes_steady, refusals_steady}
use Rattle.flow_engine_reports.specs.RunLines.{lines_of}
use Rattle.cacao_cli_ends.specs.Asked.{Asked}
use Rattle.cacao_cli_status_laws.specs.Ended.{Ended, Performs}
use Rattle.cacao_cli_ends.specs.Ends.{End, disk_failed, done, status_of, text_of}
use Rattle.cacao_cli_ends.specs.Files.{ShelfCall}
use Rattle.cacao_cli_session_laws.specs.Holding.{ClosesSo, RefusesSo, error_end}
use Rattle.cacao_cli_ends.specs.Lines.{Tells}
use Rattle.cacao_cli_ends.specs.Work.{Work, Start, compares, ends, judges, opens_filter, opens_run, rehearsals, starts, work}
use Rattle.cacao_cli_looks.proofs.AuditLemmas.{compares-disk}
use Rattle.cacao_cli_ends.proofs.EndCases.{eight-is}
use Rattle.cacao_cli_status_laws.proofs.RehearseLemmas.{rehearses-disk}
use Rattle.cacao_cli_ends.proofs.UnsaidLemmas.{last-disk, works-disk}

same-site : (old mid : SiteView) → mid ≡ old → mid.disk.faults ≡ old.disk.faults
same-site old mid e = ap (λ (s : SiteView). s.disk.faults) e

-- ---- the work

pub held-steady : (given : Given) (run most : ℕ) (answers : List OperatorAnswer) (old mid : SiteView) (last : End)
    → ClosesSo given run most answers old mid last ⊎ RefusesSo given run most answers old mid last → (status_of last ≡ 8 → ⊥) → mid.disk.faults ≡ old.disk.faults
held-steady given run most answers old mid last (inl c) other = closes_steady c.close given run most answers old mid c.closed
held-steady given run most answers old mid last (inr r) other =
    refusals_steady r.error given run most answers old mid r.why (λ e. other (ap status_of (r.ends ∙ ap error_end e)))

starts-steady : (start : Start) (old mid : SiteView) (last : End) → Performs (starts start) old mid last → (status_of last ≡ 8 → ⊥) → mid.disk.faults ≡ old.disk.faults
starts-steady start old mid last (inl h) other = same-site old mid h.same
starts-steady start old mid last (inr (inl h)) other = same-site old mid h.same
starts-steady start old mid last (inr (inr (inl h))) other = same-site old mid h.same
starts-steady start old mid last (inr (inr (inr (inl h)))) other = held-steady h.given start.run start.most h.answers old mid last h.holds.held other
starts-steady start old mid last (inr (inr (inr (inr h)))) other = same-site old mid h.same

performs-steady : (w : Work) (old mid : SiteView) (last : End) → Performs w old mid last → (status_of last ≡ 8 → ⊥) → mid.disk.faults ≡ old.disk.faults
performs-steady (ends lines end) old mid last h other = works-disk lines end old mid last h
performs-steady (judges trees mode kept) old mid last (inl h) other = performs-steady kept old mid last h.1 other
performs-steady (judges trees mode kept) old mid last (inr (inl h)) other = same-site old mid h.same
performs-steady (judges trees mode kept) old mid last (inr (inr h)) other = same-site old mid h.same
performs-steady (opens_filter agent look) old mid last (inl h) other = works-disk h.lines done h.between mid last h.says ∙ h.steady
performs-steady (opens_filter agent look) old mid last (inr (inl h)) other = h.steady
performs-steady (opens_filter agent look) old mid last (inr (inr (inl h))) other = absurd (other (ap status_of h.ends))
performs-steady (opens_filter agent look) old mid last (inr (inr (inr h))) other = h.steady
performs-steady opens_run old mid last (inl h) other = works-disk (lines_of h.text) done h.between mid last h.says ∙ h.steady
performs-steady opens_run old mid last (inr (inl h)) other = h.steady
performs-steady opens_run old mid last (inr (inr (inl h))) other = h.steady
performs-steady opens_run old mid last (inr (inr (inr (inl h)))) other = absurd (other (ap status_of h.ends))
performs-steady opens_run old mid last (inr (inr (inr (inr h)))) other = h.steady
performs-steady (compares files) old mid last h other = compares-disk files old mid last h
performs-steady (rehearsals positions) old mid last h other = rehearses-disk positions old mid last h
performs-steady (starts start) old mid last h other = starts-steady start old mid last h other

-- ---- the last line

-- a failure of the disk is told, unless its line could not be said
failure-told : (last : End) (mid new : SiteView) (answer : ℕ) → Tells last mid new answer → status_of last ≡ 8 → (answer ≡ 8) ⊎ (answer ≡ 9)
failure-told last mid new answer tells e = go (subst (λ (end : End). Tells end mid new answer) (eight-is last e) tells)
  where
    go : Tells disk_failed mid new answer → (answer ≡ 8) ⊎ (answer ≡ 9)
    go (inl (inl h)) = inl h.answers
    go (inl (inr h)) = inr h.answers
    go (inr h) = absurd (true≢false h.no_fault)

pub disk-steady-ended : (asked : Option Asked) (shelf : ShelfCall) (old new : SiteView) (answer : ℕ) → Ended asked shelf old new answer
    → (answer ≡ 8 → ⊥) → (answer ≡ 9 → ⊥) → new.disk.faults ≡ old.disk.faults
disk-steady-ended asked shelf old new answer h no8 no9 =
    last-disk h.last (text_of h.last) h.between new answer h.tells
    ∙ performs-steady (work asked h.performed.read) old h.between h.last h.performed.performs (λ e. go (failure-told h.last h.between new answer h.tells e))
  where
    go : (answer ≡ 8) ⊎ (answer ≡ 9) → ⊥
    go (inl e) = no8 e
    go (inr e) = no9 e
