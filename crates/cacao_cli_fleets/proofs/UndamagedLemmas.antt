-- No call of `fleet` tells damage that began where all agreed for each of its runs.
use Rattle.std.proofs.Common.{◌≡◌, ◌⊎◌, inl, inr, ◌∙◌, refl, sym, ap, subst, arith, ℕ, zero, suc, ◌≤◌, List, [], ◌∷◌, ◌++◌, length, None, Some, Err, IsTrue}
use Rattle.std.specs.Prelude.{map, slice_get}
use Rattle.cacao_site.specs.Sound.{IsSound}
use Rattle.cacao_site.specs.View.{SiteView}
use Rattle.flow_core_rules.specs.Givens.{Given}
use Rattle.flow_fleet_returns.specs.Fleets.{FleetRefused}
use Rattle.flow_laws.specs.Good.{IsGood}
use Rattle.flow_fleet_laws.specs.Fleets.{IsAt}
use Rattle.flow_fleet_laws.specs.Views.{seen_from}
use Rattle.flow_fleet_returns.specs.Undamaged.{EachComesOfTexts, NoFleetFindsDamage}
use Rattle.flow_fleet_steps.specs.Openings.{Runs, numbers}
use Rattle.flow_fleet_steps.specs.declared.close.FleetClose.{FleetClose}
use Rattle.flow_fleet_steps.specs.declared.close.FleetClose.TheVariants as close
use Rattle.flow_fleet_steps.specs.declared.error.FleetError.{FleetError}
use Rattle.flow_fleet_steps.specs.declared.error.FleetError.TheVariants as error
use Rattle.flow_fleet_returns.specs.WorldLawUndamaged.{ComesOfTexts}
use Rattle.cacao_cli_words.specs.Requests.{FleetRequest}
use Rattle.cacao_cli_words.specs.Words.{Text}
use Rattle.cacao_cli_ends.specs.Comes.{IsOneOf}
use Rattle.cacao_cli_ends.specs.Files.{NamedText, ShelfCall}
use Rattle.cacao_cli_ends.proofs.LineLemmas.{IsCutOff}
use Rattle.cacao_cli_ends.proofs.StatusLists.{not-among}
use Rattle.cacao_cli_fleets.specs.FleetEnds.{FleetEnd, TellsFleet, close_end, error_end}
use Rattle.cacao_cli_fleets.specs.FleetTexts.{GiveAll, fleet_files}
use Rattle.cacao_cli_fleets.specs.FleetTexts.GiveAll.{nothing, one_more}
use Rattle.cacao_cli_fleets.specs.Fleeting.{ClosesFleet, GoesAsFleet, HoldsFleet, RefusesFleet}
use Rattle.cacao_cli_fleets.proofs.EndLemmas.{fleet-tells-status, fleet_status}
use Rattle.cacao_cli_fleets.proofs.OutcomeLemmas.{judged_statuses, none-listed}
use Rattle.cacao_cli_fleets.proofs.TextLemmas.{file_statuses, reads-listed}

-- ---- what each run is given

same-run : (a b : ℕ × Given) → Some a ≡ Some b → a ≡ b
same-run a b e = cc

-- a place among runs with one more at the end
get-more : (runs : Runs) (one other : ℕ × Given) (place : ℕ) → slice_get (runs ++ one ∷ []) place ≡ Some other → (slice_get runs place ≡ Some other) ⊎ (one ≡ other)
get-more [] one other zero e = inr (same-run one other e)
get-more [] one other (suc place) e = absurd (cc)
get-more (first ∷ runs) one other zero e = inl e
get-more (first ∷ runs) one other (suc place) e = get-more runs one other place e

comes-of : (texts : List NamedText) (runs : Runs) → GiveAll texts runs → EachComesOfTexts runs
comes-of texts runs nothing place run given there = absurd (cc)
comes-of all whole (one_more {texts} {runs} text number gave rest gives) place run given there = go (comes-of texts runs rest place run given) (get-more runs (number, gave) (run, given) place there)
  where
    go : (slice_get runs place ≡ Some (run, given) → ComesOfTexts given) → (slice_get runs place ≡ Some (run, given)) ⊎ (◌≡◌ {A = ℕ × Given} (number, gave) (run, given)) → ComesOfTexts given
    go before_it (inl h) = before_it h
    go before_it (inr e) = subst (λ (x : Given). ComesOfTexts x) (ap (λ (x : ℕ × Given). x.1) e) (record { texts = text.bytes ∷ []; bind = []; accepted = gives })

-- there are as many as the words name
count-runs : (runs : Runs) (pairs : List (ℕ × Text)) → numbers runs ≡ map (λ pair. pair.0) pairs → length runs ≡ length pairs
count-runs runs pairs e = sym (of-runs runs) ∙ ap (λ (l : List ℕ). length l) e ∙ of-pairs pairs
  where
    of-runs : (l : Runs) → length (numbers l) ≡ length l
    of-runs [] = refl
    of-runs (x ∷ l) = ap suc (of-runs l)

    of-pairs : (l : List (ℕ × Text)) → length (map (λ pair. pair.0) l) ≡ length l
    of-pairs [] = refl
    of-pairs (x ∷ l) = ap suc (of-pairs l)

-- ---- which end it is

close-damaged : (how : FleetClose) → fleet_status (close_end how) ≡ 13 → ⊥
close-damaged (close.Ended None) e = omega (arith, e)
close-damaged (close.Ended (Some run)) e = omega (arith, e)
close-damaged close.Paused e = omega (arith, e)
close-damaged (close.Waiting due) e = omega (arith, e)
close-damaged close.Flooded e = omega (arith, e)
close-damaged (close.Asked run issue) e = omega (arith, e)

-- which refusal it is
error-damaged : (P : FleetError → Type 0) → ((file place : ℕ) → P (error.Damaged file place) → ⊥) → (why : FleetError) → P why → fleet_status (error_end why) ≡ 13 → ⊥
error-damaged P none (error.Damaged file place) is e = none file place is
error-damaged P none error.Disk is e = omega (arith, e)
error-damaged P none (error.OtherRun held asked) is e = omega (arith, e)
error-damaged P none (error.OtherBook run index) is e = omega (arith, e)
error-damaged P none (error.RunUsed run agent) is e = omega (arith, e)
error-damaged P none (error.Limit what) is e = omega (arith, e)
error-damaged P none error.Say is e = omega (arith, e)
error-damaged P none error.Memory is e = omega (arith, e)

-- ---- the call

module _ (no_damage : NoFleetFindsDamage) (wanted : FleetRequest) (shelf : ShelfCall) (old mid new : SiteView) (last : FleetEnd) (answer : ℕ) (some : 1 ≤ length wanted.runs)
    (sound : IsSound old) (sound_then : IsSound mid) (told : IsTrue old.disk.told)
    (good : (place run : ℕ) → IsAt (map (λ pair. pair.0) wanted.runs) place run → IsGood (seen_from place old) old.disk.beat) where
  held-undamaged : HoldsFleet wanted shelf old mid last → fleet_status last ≡ 13 → ⊥
  held-undamaged h e = go h.holds.held
    where
      good_each : (place run : ℕ) → IsAt (numbers h.runs) place run → IsGood (seen_from place old) old.disk.beat
      good_each place run at = good place run (subst (λ (l : List ℕ). IsAt l place run) h.ready.numbered at)

      many : 1 ≤ length h.runs
      many = subst (λ (n : ℕ). 1 ≤ n) (sym (count-runs h.runs wanted.runs h.ready.numbered)) some

      go : ClosesFleet h.runs wanted.most old mid last ⊎ RefusesFleet h.runs wanted.most old mid last → ⊥
      go (inl c) = close-damaged c.close (sym (ap fleet_status c.ends) ∙ e)
      go (inr r) = error-damaged (λ why. FleetRefused why h.runs wanted.most old mid)
          (λ file place is. no_damage h.runs wanted.most old mid file place many (comes-of h.texts h.runs h.ready.gives) told good_each sound sound_then is)
          r.error r.refused (sym (ap fleet_status r.ends) ∙ e)

  pub fleet-undamaged : GoesAsFleet wanted shelf old mid last → TellsFleet last mid new answer → answer ≡ 13 → ⊥
  fleet-undamaged goes tells e = go goes (seen (fleet-tells-status last mid new answer tells))
    where
      seen : (answer ≡ fleet_status last) ⊎ IsCutOff answer → fleet_status last ≡ 13
      seen (inl is) = sym is ∙ e
      seen (inr cut) = absurd (not-among 13 (9 ∷ 10 ∷ []) refl (subst IsCutOff e cut))

      go : GoesAsFleet wanted shelf old mid last → fleet_status last ≡ 13 → ⊥
      go (inl h) at = not-among 13 file_statuses refl (subst (λ (n : ℕ). IsOneOf n file_statuses) (sym (ap fleet_status h.ends) ∙ at)
          (reads-listed shelf.told (fleet_files wanted) h.reads.count (Err h.end) h.end h.reads.reads refl))
      go (inr (inl h)) at = not-among 13 judged_statuses refl (subst (λ (n : ℕ). IsOneOf n judged_statuses) at (none-listed h.texts last h.why))
      go (inr (inr h)) at = held-undamaged h at
