-- A failed disk and a line that could not be said, of a call of `fleet`.
use Rattle.std.proofs.Common.{◌≡◌, ◌⊎◌, inl, inr, ◌∙◌, refl, sym, ap, subst, arith, ℕ, List, [], ◌∷◌, Some, None, Err}
use Rattle.cacao_site.specs.Counts.{Rose, next_count}
use Rattle.cacao_site.specs.View.{SiteView}
use Rattle.flow_fleet_returns.specs.Fleets.{FleetRefused}
use Rattle.flow_fleet_returns.specs.Causes.{CountsAsRefused, EachFleetRefusalTells}
use Rattle.flow_fleet_steps.specs.Openings.{Runs}
use Rattle.flow_fleet_steps.specs.declared.close.FleetClose.{FleetClose}
use Rattle.flow_fleet_steps.specs.declared.close.FleetClose.TheVariants as close
use Rattle.flow_fleet_steps.specs.declared.error.FleetError.{FleetError}
use Rattle.flow_fleet_steps.specs.declared.error.FleetError.TheVariants as error
use Rattle.cacao_cli_words.specs.Requests.{FleetRequest}
use Rattle.cacao_cli_words.specs.Words.{Text}
use Rattle.cacao_cli_ends.specs.Comes.{IsOneOf}
use Rattle.cacao_cli_ends.specs.Ends.{End, status_of, text_of, unsaid}
use Rattle.cacao_cli_ends.specs.Files.{ShelfCall}
use Rattle.cacao_cli_ends.proofs.EndCases.{nine-or-not}
use Rattle.cacao_cli_ends.proofs.EndLemmas.{no-more}
use Rattle.cacao_cli_ends.proofs.LineLemmas.{IsCutOff}
use Rattle.cacao_cli_ends.proofs.StatusLists.{not-among}
use Rattle.cacao_cli_ends.proofs.UnsaidLemmas.{last-disk, last-unsaid}
use Rattle.cacao_cli_fleets.specs.FleetEnds.{FleetEnd, SaysEnd, TellsFleet, asked_of, close_end, error_end, failed, other_book_of, plain, used_by}
use Rattle.cacao_cli_fleets.specs.FleetTexts.{fleet_files}
use Rattle.cacao_cli_fleets.specs.Fleeting.{ClosesFleet, FleetHeld, GoesAsFleet, RefusesFleet}
use Rattle.cacao_cli_fleets.proofs.EndLemmas.{asked_text, failed_text, fleet-tells-status, fleet_status, other_text, used_text}
use Rattle.cacao_cli_fleets.proofs.FleetCounts.{held-said}
use Rattle.cacao_cli_fleets.proofs.OutcomeLemmas.{judged_statuses, none-listed}
use Rattle.cacao_cli_fleets.proofs.TextLemmas.{file_statuses, reads-listed}

-- ---- which end it is

close-eight : (how : FleetClose) → fleet_status (close_end how) ≡ 8 → ⊥
close-eight (close.Ended None) e = omega (arith, e)
close-eight (close.Ended (Some run)) e = omega (arith, e)
close-eight close.Paused e = omega (arith, e)
close-eight (close.Waiting due) e = omega (arith, e)
close-eight close.Flooded e = omega (arith, e)
close-eight (close.Asked run issue) e = omega (arith, e)

close-nine : (how : FleetClose) → fleet_status (close_end how) ≡ 9 → ⊥
close-nine (close.Ended None) e = omega (arith, e)
close-nine (close.Ended (Some run)) e = omega (arith, e)
close-nine close.Paused e = omega (arith, e)
close-nine (close.Waiting due) e = omega (arith, e)
close-nine close.Flooded e = omega (arith, e)
close-nine (close.Asked run issue) e = omega (arith, e)

error-eight : (why : FleetError) → fleet_status (error_end why) ≡ 8 → why ≡ error.Disk
error-eight error.Disk e = refl
error-eight (error.Damaged file place) e = absurd (omega (arith, e))
error-eight (error.OtherRun held asked) e = absurd (omega (arith, e))
error-eight (error.OtherBook run index) e = absurd (omega (arith, e))
error-eight (error.RunUsed run agent) e = absurd (omega (arith, e))
error-eight (error.Limit what) e = absurd (omega (arith, e))
error-eight error.Say e = absurd (omega (arith, e))
error-eight error.Memory e = absurd (omega (arith, e))

error-nine : (why : FleetError) → fleet_status (error_end why) ≡ 9 → why ≡ error.Say
error-nine error.Disk e = absurd (omega (arith, e))
error-nine (error.Damaged file place) e = absurd (omega (arith, e))
error-nine (error.OtherRun held asked) e = absurd (omega (arith, e))
error-nine (error.OtherBook run index) e = absurd (omega (arith, e))
error-nine (error.RunUsed run agent) e = absurd (omega (arith, e))
error-nine (error.Limit what) e = absurd (omega (arith, e))
error-nine error.Say e = refl
error-nine error.Memory e = absurd (omega (arith, e))

-- ---- the last line

says-nine : (text : Text) (status : ℕ) (mid new : SiteView) (answer : ℕ) → (status ≡ 9 → ⊥) → SaysEnd text status mid new answer → answer ≡ 9 → new.counts.unsaid ≡ next_count mid.counts.unsaid
says-nine text status mid new answer other (inl (inl h)) e = absurd (other (sym h.answers ∙ e))
says-nine text status mid new answer other (inl (inr h)) e = h.fails.unsaid
says-nine text status mid new answer other (inr h) e = absurd (omega (arith, e, h.answers))

-- the last line fails no call of the disk
says-disk : (text : Text) (status : ℕ) (mid new : SiteView) (answer : ℕ) → SaysEnd text status mid new answer → new.disk.faults ≡ mid.disk.faults
says-disk text status mid new answer (inl (inl h)) = h.says.only.disk.faults
says-disk text status mid new answer (inl (inr h)) = h.fails.only.disk.faults
says-disk text status mid new answer (inr h) = ap (λ (s : SiteView). s.disk.faults) h.same

pub line-disk : (last : FleetEnd) (mid new : SiteView) (answer : ℕ) → TellsFleet last mid new answer → new.disk.faults ≡ mid.disk.faults
line-disk (plain end) mid new answer h = last-disk end (text_of end) mid new answer h
line-disk (failed run) mid new answer h = says-disk (failed_text run) 6 mid new answer h
line-disk (asked_of run issue) mid new answer h = says-disk (asked_text run issue) 16 mid new answer h
line-disk (other_book_of run index) mid new answer h = says-disk (other_text run index) 12 mid new answer h
line-disk (used_by run agent) mid new answer h = says-disk (used_text run agent) 12 mid new answer h

-- a call that answers 9 could not say its last line, or ended so before it
last-nine : (last : FleetEnd) (mid new : SiteView) (answer : ℕ) → TellsFleet last mid new answer → answer ≡ 9
    → ((last ≡ plain unsaid) × (new ≡ mid)) ⊎ (new.counts.unsaid ≡ next_count mid.counts.unsaid)
last-nine (plain end) mid new answer h e = go (nine-or-not end)
  where
    go : (end ≡ unsaid) ⊎ (status_of end ≡ 9 → ⊥) → ((plain end ≡ plain unsaid) × (new ≡ mid)) ⊎ (new.counts.unsaid ≡ next_count mid.counts.unsaid)
    go (inl is) = inl (ap plain is, (no-more end unsaid mid new answer is refl h).0)
    go (inr other) = inr (last-unsaid end (text_of end) mid new answer other h e)
last-nine (failed run) mid new answer h e = inr (says-nine (failed_text run) 6 mid new answer (λ f. omega (arith, f)) h e)
last-nine (asked_of run issue) mid new answer h e = inr (says-nine (asked_text run issue) 16 mid new answer (λ f. omega (arith, f)) h e)
last-nine (other_book_of run index) mid new answer h e = inr (says-nine (other_text run index) 12 mid new answer (λ f. omega (arith, f)) h e)
last-nine (used_by run agent) mid new answer h e = inr (says-nine (used_text run agent) 12 mid new answer (λ f. omega (arith, f)) h e)

rose-next : (a b c : ℕ) → b ≡ a → c ≡ next_count b → Rose a c
rose-next a b c same is = omega (arith, same, is)

rose-more : (a b c : ℕ) → Rose a b → c ≡ next_count b → Rose a c
rose-more a b c rose is = omega (arith, rose, is)

-- ---- a fleet

module _ (tells_refusal : EachFleetRefusalTells) (runs : Runs) (most : ℕ) (old mid : SiteView) (last : FleetEnd) (h : FleetHeld runs most old mid last) where
  refused-as : (why other : FleetError) → why ≡ other → FleetRefused why runs most old mid → CountsAsRefused other old mid
  refused-as why other is r = subst (λ (x : FleetError). CountsAsRefused x old mid) is (tells_refusal why runs most old mid r)

  held-disk : fleet_status last ≡ 8 → Rose old.disk.faults mid.disk.faults
  held-disk e = go h.held
    where
      go : ClosesFleet runs most old mid last ⊎ RefusesFleet runs most old mid last → Rose old.disk.faults mid.disk.faults
      go (inl c) = absurd (close-eight c.close (sym (ap fleet_status c.ends) ∙ e))
      go (inr r) = (refused-as r.error error.Disk (error-eight r.error (sym (ap fleet_status r.ends) ∙ e)) r.refused).faults

  held-line : last ≡ plain unsaid → Rose old.counts.unsaid mid.counts.unsaid
  held-line is = go h.held
    where
      go : ClosesFleet runs most old mid last ⊎ RefusesFleet runs most old mid last → Rose old.counts.unsaid mid.counts.unsaid
      go (inl c) = absurd (close-nine c.close (ap fleet_status (sym c.ends ∙ is)))
      go (inr r) = rose-next old.counts.unsaid old.counts.unsaid mid.counts.unsaid refl
          (refused-as r.error error.Say (error-nine r.error (ap fleet_status (sym r.ends ∙ is))) r.refused).unsaid

  held-grew : (mid.counts.unsaid ≡ old.counts.unsaid) ⊎ Rose old.counts.unsaid mid.counts.unsaid
  held-grew = go (held-said runs most old mid last h)
    where
      go : (mid.counts.unsaid ≡ old.counts.unsaid) ⊎ (last ≡ plain unsaid) → (mid.counts.unsaid ≡ old.counts.unsaid) ⊎ Rose old.counts.unsaid mid.counts.unsaid
      go (inl same) = inl same
      go (inr is) = inr (held-line is)

-- ---- the call

module _ (tells_refusal : EachFleetRefusalTells) (wanted : FleetRequest) (shelf : ShelfCall) (old mid new : SiteView) (last : FleetEnd) (answer : ℕ)
    (goes : GoesAsFleet wanted shelf old mid last) (tells : TellsFleet last mid new answer) where
  -- an end that stops before a fleet has none of the statuses that neither files nor playbooks give
  goes-disk : fleet_status last ≡ 8 → Rose old.disk.faults mid.disk.faults
  goes-disk e = go goes
    where
      go : GoesAsFleet wanted shelf old mid last → Rose old.disk.faults mid.disk.faults
      go (inl h) = absurd (not-among 8 file_statuses refl (subst (λ (n : ℕ). IsOneOf n file_statuses) (sym (ap fleet_status h.ends) ∙ e)
          (reads-listed shelf.told (fleet_files wanted) h.reads.count (Err h.end) h.end h.reads.reads refl)))
      go (inr (inl h)) = absurd (not-among 8 judged_statuses refl (subst (λ (n : ℕ). IsOneOf n judged_statuses) e (none-listed h.texts last h.why)))
      go (inr (inr h)) = held-disk tells_refusal h.runs wanted.most old mid last h.holds e

  goes-line : last ≡ plain unsaid → Rose old.counts.unsaid mid.counts.unsaid
  goes-line is = go goes
    where
      go : GoesAsFleet wanted shelf old mid last → Rose old.counts.unsaid mid.counts.unsaid
      go (inl h) = absurd (not-among 9 file_statuses refl (subst (λ (n : ℕ). IsOneOf n file_statuses) (ap fleet_status (sym h.ends ∙ is))
          (reads-listed shelf.told (fleet_files wanted) h.reads.count (Err h.end) h.end h.reads.reads refl)))
      go (inr (inl h)) = absurd (not-among 9 judged_statuses refl (subst (λ (n : ℕ). IsOneOf n judged_statuses) (ap fleet_status is) (none-listed h.texts last h.why)))
      go (inr (inr h)) = held-line tells_refusal h.runs wanted.most old mid last h.holds is

  goes-grew : (mid.counts.unsaid ≡ old.counts.unsaid) ⊎ Rose old.counts.unsaid mid.counts.unsaid
  goes-grew = go goes
    where
      go : GoesAsFleet wanted shelf old mid last → (mid.counts.unsaid ≡ old.counts.unsaid) ⊎ Rose old.counts.unsaid mid.counts.unsaid
      go (inl h) = inl (ap (λ (s : SiteView). s.counts.unsaid) h.same)
      go (inr (inl h)) = inl (ap (λ (s : SiteView). s.counts.unsaid) h.same)
      go (inr (inr h)) = held-grew tells_refusal h.runs wanted.most old mid last h.holds

  seen-eight : answer ≡ 8 → fleet_status last ≡ 8
  seen-eight e = go (fleet-tells-status last mid new answer tells)
    where
      go : (answer ≡ fleet_status last) ⊎ IsCutOff answer → fleet_status last ≡ 8
      go (inl is) = sym is ∙ e
      go (inr cut) = absurd (not-among 8 (9 ∷ 10 ∷ []) refl (subst IsCutOff e cut))

  -- where it answers 8, calls of the disk failed
  pub fleet-disk : answer ≡ 8 → Rose old.disk.faults new.disk.faults
  fleet-disk e = subst (λ (n : ℕ). Rose old.disk.faults n) (sym (line-disk last mid new answer tells)) (goes-disk (seen-eight e))

  -- where it answers 9, a line could not be said
  pub fleet-unsaid : answer ≡ 9 → Rose old.counts.unsaid new.counts.unsaid
  fleet-unsaid e = go (last-nine last mid new answer tells e)
    where
      by : new.counts.unsaid ≡ next_count mid.counts.unsaid → (mid.counts.unsaid ≡ old.counts.unsaid) ⊎ Rose old.counts.unsaid mid.counts.unsaid → Rose old.counts.unsaid new.counts.unsaid
      by is (inl same) = rose-next old.counts.unsaid mid.counts.unsaid new.counts.unsaid same is
      by is (inr rose) = rose-more old.counts.unsaid mid.counts.unsaid new.counts.unsaid rose is

      go : ((last ≡ plain unsaid) × (new ≡ mid)) ⊎ (new.counts.unsaid ≡ next_count mid.counts.unsaid) → Rose old.counts.unsaid new.counts.unsaid
      go (inl h) = subst (λ (s : SiteView). Rose old.counts.unsaid s.counts.unsaid) (sym h.1) (goes-line h.0)
      go (inr is) = by is goes-grew
