-- The statuses of a fleet's ends, and what its last line does.
use Rattle.std.proofs.Common.{◌≡◌, ◌⊎◌, inl, inr, ◌∙◌, refl, sym, ap, subst, arith, ℕ, List, [], ◌∷◌, ◌++◌, Bool, true, false, Some, None, Option, codes}
use Rattle.std.specs.Prelude.{decimal}
use Rattle.std.proofs.lemmas.Bool.{true≢false}
use Rattle.cacao_site.specs.View.{SiteView}
use Rattle.flow_fleet_steps.specs.declared.close.FleetClose.{FleetClose}
use Rattle.flow_fleet_steps.specs.declared.close.FleetClose.TheVariants as close
use Rattle.flow_fleet_steps.specs.declared.error.FleetError.{FleetError}
use Rattle.flow_fleet_steps.specs.declared.error.FleetError.TheVariants as error
use Rattle.cacao_cli_words.specs.Words.{Text}
use Rattle.cacao_cli_ends.specs.Comes.{IsOneOf}
use Rattle.cacao_cli_ends.specs.Ends.{End, is_fault, status_of, text_of}
use Rattle.cacao_cli_ends.specs.Lines.{SaysOrFails, Tells, TellsText}
use Rattle.cacao_cli_ends.proofs.LineLemmas.{IsCutOff, tells-status}
use Rattle.cacao_cli_ends.proofs.UnsaidLemmas.{last-disk, last-said}
use Rattle.cacao_cli_fleets.specs.FleetEnds.{FleetEnd, SaysEnd, TellsFleet, WantsForLine, asked_of, close_end, error_end, failed, other_book_of, plain, used_by}

abbrev pub fleet_status : FleetEnd → ℕ
fleet_status (plain end) = status_of end
fleet_status (failed run) = 6
fleet_status (asked_of run issue) = 16
fleet_status (other_book_of run index) = 12
fleet_status (used_by run agent) = 12

-- the texts of the last lines
abbrev pub failed_text : ℕ → Text
failed_text run = codes "ended failed " ++ decimal run

abbrev pub asked_text : ℕ → ℕ → Text
asked_text run issue = codes "asked " ++ (decimal run ++ (codes " " ++ decimal issue))

abbrev pub other_text : ℕ → ℕ → Text
other_text run index = codes "other playbook " ++ (decimal run ++ (codes " " ++ decimal index))

abbrev pub used_text : ℕ → ℕ → Text
used_text run agent = codes "run used " ++ (decimal run ++ (codes " " ++ decimal agent))

says-status : (text : Text) (status : ℕ) (mid new : SiteView) (answer : ℕ) → SaysEnd text status mid new answer → (answer ≡ status) ⊎ IsCutOff answer
says-status text status mid new answer (inl (inl h)) = inl h.answers
says-status text status mid new answer (inl (inr h)) = inr (inl h.answers)
says-status text status mid new answer (inr h) = inr (inr (inl h.answers))

pub fleet-tells-status : (last : FleetEnd) (mid new : SiteView) (answer : ℕ) → TellsFleet last mid new answer → (answer ≡ fleet_status last) ⊎ IsCutOff answer
fleet-tells-status (plain end) mid new answer h = tells-status end mid new answer h
fleet-tells-status (failed run) mid new answer h = says-status (failed_text run) 6 mid new answer h
fleet-tells-status (asked_of run issue) mid new answer h = says-status (asked_text run issue) 16 mid new answer h
fleet-tells-status (other_book_of run index) mid new answer h = says-status (other_text run index) 12 mid new answer h
fleet-tells-status (used_by run agent) mid new answer h = says-status (used_text run agent) 12 mid new answer h

-- where memory was wanted at last, or before, the last line counts no fault
pub record CountsNone (mid new : SiteView) : Type 0 where
  pub disk : new.disk.faults ≡ mid.disk.faults
  pub said : new.counts.unsaid ≡ mid.counts.unsaid

says-ten : (text : Text) (status : ℕ) (mid new : SiteView) (answer : ℕ) → (status ≡ 10 → ⊥) → SaysEnd text status mid new answer → answer ≡ 10 → CountsNone mid new
says-ten text status mid new answer other (inl (inl h)) e = absurd (other (sym h.answers ∙ e))
says-ten text status mid new answer other (inl (inr h)) e = absurd (omega (arith, e, h.answers))
says-ten text status mid new answer other (inr h) e = record { disk = ap (λ (s : SiteView). s.disk.faults) h.same; said = ap (λ (s : SiteView). s.counts.unsaid) h.same }

pub fleet-ten : (last : FleetEnd) (mid new : SiteView) (answer : ℕ) → TellsFleet last mid new answer → answer ≡ 10 → CountsNone mid new
fleet-ten (plain end) mid new answer h e = record { disk = last-disk end (text_of end) mid new answer h; said = last-said end (text_of end) mid new answer h (λ f. omega (arith, e, f)) }
fleet-ten (failed run) mid new answer h e = says-ten (failed_text run) 6 mid new answer (λ f. omega (arith, f)) h e
fleet-ten (asked_of run issue) mid new answer h e = says-ten (asked_text run issue) 16 mid new answer (λ f. omega (arith, f)) h e
fleet-ten (other_book_of run index) mid new answer h e = says-ten (other_text run index) 12 mid new answer (λ f. omega (arith, f)) h e
fleet-ten (used_by run agent) mid new answer h e = says-ten (used_text run agent) 12 mid new answer (λ f. omega (arith, f)) h e

-- an end that tells a fault is no want of memory
fault-ten : (end : End) (mid new : SiteView) (answer : ℕ) → is_fault end ≡ true → (status_of end ≡ 10 → ⊥) → Tells end mid new answer → answer ≡ 10 → ⊥
fault-ten end mid new answer fault other tells e = go (text_of end) tells
  where
    go : (text : Option Text) → TellsText end text mid new answer → ⊥
    go None h = other (sym h.answers ∙ e)
    go (Some text) (inl (inl h)) = other (sym h.answers ∙ e)
    go (Some text) (inl (inr h)) = omega (arith, e, h.answers)
    go (Some text) (inr h) = true≢false (sym fault ∙ h.no_fault)

pub fleet-fault-ten : (last : FleetEnd) (end : End) (mid new : SiteView) (answer : ℕ) → last ≡ plain end → is_fault end ≡ true → (status_of end ≡ 10 → ⊥) → TellsFleet last mid new answer → answer ≡ 10 → ⊥
fleet-fault-ten last end mid new answer is fault other tells e = fault-ten end mid new answer fault other (subst (λ (x : FleetEnd). TellsFleet x mid new answer) is tells) e

-- ---- which statuses

abbrev pub held_statuses : List ℕ
held_statuses = 0 ∷ 6 ∷ 7 ∷ 8 ∷ 9 ∷ 10 ∷ 11 ∷ 12 ∷ 13 ∷ 14 ∷ 15 ∷ 16 ∷ []

pub close-listed : (c : FleetClose) → IsOneOf (fleet_status (close_end c)) held_statuses
close-listed (close.Ended None) = inl refl
close-listed (close.Ended (Some run)) = inr (inl refl)
close-listed close.Paused = inr (inr (inl refl))
close-listed (close.Waiting due) = inr (inr (inr (inr (inr (inr (inr (inr (inr (inl refl)))))))))
close-listed close.Flooded = inr (inr (inr (inr (inr (inr (inr (inr (inr (inr (inl refl))))))))))
close-listed (close.Asked run issue) = inr (inr (inr (inr (inr (inr (inr (inr (inr (inr (inr (inl refl)))))))))))

pub error-listed : (why : FleetError) → IsOneOf (fleet_status (error_end why)) held_statuses
error-listed error.Disk = inr (inr (inr (inl refl)))
error-listed error.Say = inr (inr (inr (inr (inl refl))))
error-listed error.Memory = inr (inr (inr (inr (inr (inl refl)))))
error-listed (error.Limit what) = inr (inr (inr (inr (inr (inr (inl refl))))))
error-listed (error.OtherRun held asked) = inr (inr (inr (inr (inr (inr (inr (inl refl)))))))
error-listed (error.OtherBook run index) = inr (inr (inr (inr (inr (inr (inr (inl refl)))))))
error-listed (error.RunUsed run agent) = inr (inr (inr (inr (inr (inr (inr (inl refl)))))))
error-listed (error.Damaged file place) = inr (inr (inr (inr (inr (inr (inr (inr (inl refl))))))))
