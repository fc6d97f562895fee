-- The clauses of a call that holds a fleet, or none.
use Rattle.std.proofs.Common.{◌≡◌, ◌⊎◌, inl, inr, ◌∙◌, refl, sym, ap, subst, arith, ℕ, ◌==◌, Bool, true, false, List, [], ◌∷◌, length, Ok, Err}
use Rattle.std.specs.Prelude.{if◌then◌else◌}
use Rattle.std.proofs.lemmas.Bool.{eqb-true}
use Rattle.cacao_site.specs.Counts.{next_count}
use Rattle.cacao_site.specs.View.{SiteView}
use Rattle.cacao_cli_words.specs.Requests.{FleetRequest}
use Rattle.cacao_cli_ends.specs.Comes.{IsOneOf}
use Rattle.cacao_cli_ends.specs.Ends.{End, disk_failed, is_fault, status_of, unsaid}
use Rattle.cacao_cli_ends.specs.Files.{NamedText, ReadsTo, ShelfCall}
use Rattle.cacao_cli_ends.specs.Stays.{NoFault, ReadsAtMost}
use Rattle.cacao_cli_ends.proofs.EndLemmas.{end-failed}
use Rattle.cacao_cli_ends.proofs.LineLemmas.{IsCutOff}
use Rattle.cacao_cli_ends.proofs.ReadLemmas.{Read, reads-few}
use Rattle.cacao_cli_ends.proofs.StatusLists.{not-among}
use Rattle.flow_fleet_steps.specs.Openings.{Runs}
use Rattle.cacao_cli_fleets.specs.FleetEnds.{FleetEnd, TellsFleet, plain}
use Rattle.cacao_cli_fleets.specs.FleetTexts.{fleet_files}
use Rattle.cacao_cli_fleets.specs.Fleeting.{ClosesFleet, FleetHeld, GivesNone, GoesAsFleet, RefusesFleet}
use Rattle.cacao_cli_fleets.proofs.EndLemmas.{CountsNone, close-listed, error-listed, fleet-fault-ten, fleet-ten, fleet-tells-status, fleet_status, held_statuses}
use Rattle.cacao_cli_fleets.proofs.FleetCounts.{held-said}
use Rattle.cacao_cli_fleets.proofs.TextLemmas.{file_statuses, reads-listed, trees-listed}

-- what a call that stops comes to
abbrev pub judged_statuses : List ℕ
judged_statuses = 1 ∷ 5 ∷ 10 ∷ []

pub none-listed : (texts : List NamedText) (last : FleetEnd) → GivesNone texts last → IsOneOf (fleet_status last) judged_statuses
none-listed texts last (inl h) = inr (inl (ap fleet_status h.ends ∙ trees-listed texts h.end h.none))
none-listed texts last (inr (inl h)) = inl (ap fleet_status h.ends)
none-listed texts last (inr (inr h)) = inr (inr (inl (ap fleet_status h)))

held-listed : (runs : Runs) (most : ℕ) (old new : SiteView) (last : FleetEnd) → FleetHeld runs most old new last → IsOneOf (fleet_status last) held_statuses
held-listed runs most old new last h = go h.held
  where
    go : ClosesFleet runs most old new last ⊎ RefusesFleet runs most old new last → IsOneOf (fleet_status last) held_statuses
    go (inl c) = subst (λ (x : FleetEnd). IsOneOf (fleet_status x) held_statuses) (sym c.ends) (close-listed c.close)
    go (inr r) = subst (λ (x : FleetEnd). IsOneOf (fleet_status x) held_statuses) (sym r.ends) (error-listed r.error)

module _ (wanted : FleetRequest) (shelf : ShelfCall) (old mid new : SiteView) (last : FleetEnd) (answer : ℕ)
    (goes : GoesAsFleet wanted shelf old mid last) (tells : TellsFleet last mid new answer) where
  -- the answer is one of the list, where the end's status is
  among : (ms ns : List ℕ) → IsOneOf (fleet_status last) ms → ((n : ℕ) → IsOneOf n ms → IsOneOf n ns) → (IsCutOff answer → IsOneOf answer ns) → IsOneOf answer ns
  among ms ns one wide cut = go (fleet-tells-status last mid new answer tells)
    where
      go : (answer ≡ fleet_status last) ⊎ IsCutOff answer → IsOneOf answer ns
      go (inl e) = subst (λ (n : ℕ). IsOneOf n ns) (sym e) (wide (fleet_status last) one)
      go (inr c) = cut c

  pub fleet-own : (ns : List ℕ) → ((n : ℕ) → IsOneOf n file_statuses → IsOneOf n ns) → ((n : ℕ) → IsOneOf n judged_statuses → IsOneOf n ns) → ((n : ℕ) → IsOneOf n held_statuses → IsOneOf n ns) → (IsCutOff answer → IsOneOf answer ns) → IsOneOf answer ns
  fleet-own ns files judged held cut = go goes
    where
      go : GoesAsFleet wanted shelf old mid last → IsOneOf answer ns
      go (inl h) = among file_statuses ns (subst (λ (x : FleetEnd). IsOneOf (fleet_status x) file_statuses) (sym h.ends)
          (reads-listed shelf.told (fleet_files wanted) h.reads.count (Err h.end) h.end h.reads.reads refl)) files cut
      go (inr (inl h)) = among judged_statuses ns (none-listed h.texts last h.why) judged cut
      go (inr (inr h)) = among held_statuses ns (held-listed h.runs wanted.most old mid last h.holds) held cut

  -- an answer that is neither 9 nor 10 is the end's status
  seen : (m : ℕ) → (IsCutOff m → ⊥) → answer ≡ m → fleet_status last ≡ m
  seen m other e = go (fleet-tells-status last mid new answer tells)
    where
      go : (answer ≡ fleet_status last) ⊎ IsCutOff answer → fleet_status last ≡ m
      go (inl f) = sym f ∙ e
      go (inr c) = absurd (other (subst IsCutOff e c))

  -- reading that came to an end that is no failure of the shelf
  quiet-read : (end : End) (reads : ReadsTo shelf (fleet_files wanted) (Err end)) → (status_of end ≡ 3 → ⊥) → shelf.after ≡ shelf.before
  quiet-read end reads other = reads.faults ∙ go (status_of end == 3) refl
    where
      go : (b : Bool) → b ≡ (status_of end == 3) → (if b then next_count shelf.before else shelf.before) ≡ shelf.before
      go true is = absurd (other (eqb-true (status_of end) 3 (sym is)))
      go false is = refl

  pub fleet-failed : answer ≡ 3 → shelf.after ≡ next_count shelf.before
  fleet-failed e = go goes
    where
      at : fleet_status last ≡ 3
      at = seen 3 (λ c. not-among 3 (9 ∷ 10 ∷ []) refl c) e

      out : (ms : List ℕ) → IsOneOf (fleet_status last) ms → IsOneOf 3 ms
      out ms one = subst (λ (n : ℕ). IsOneOf n ms) at one

      go : GoesAsFleet wanted shelf old mid last → shelf.after ≡ next_count shelf.before
      go (inl h) = h.reads.faults ∙ ap (λ (n : ℕ). if n == 3 then next_count shelf.before else shelf.before) (sym (ap fleet_status h.ends) ∙ at)
      go (inr (inl h)) = absurd (not-among 3 judged_statuses refl (out judged_statuses (none-listed h.texts last h.why)))
      go (inr (inr h)) = absurd (not-among 3 held_statuses refl (out held_statuses (held-listed h.runs wanted.most old mid last h.holds)))

  pub fleet-memory : answer ≡ 10 → NoFault shelf.before shelf.after old new
  fleet-memory e = go goes
    where
      none : CountsNone mid new
      none = fleet-ten last mid new answer tells e

      still : mid ≡ old → shelf.after ≡ shelf.before → NoFault shelf.before shelf.after old new
      still same steady = record {
        shelf = steady;
        disk = none.disk ∙ ap (λ (s : SiteView). s.disk.faults) same;
        say = none.said ∙ ap (λ (s : SiteView). s.counts.unsaid) same;
      }

      go : GoesAsFleet wanted shelf old mid last → NoFault shelf.before shelf.after old new
      go (inl h) = still h.same (quiet-read h.end h.reads (λ f. let failed = end-failed h.end f in fleet-fault-ten last h.end mid new answer h.ends (ap is_fault failed.1) (λ g. omega (arith, f, g)) tells e))
      go (inr (inl h)) = still h.same h.reads.faults
      go (inr (inr h)) = by (held-said h.runs wanted.most old mid last h.holds)
        where
          disk : mid.disk.faults ≡ old.disk.faults
          disk = h.holds.steady (λ is. fleet-fault-ten last disk_failed mid new answer is refl (λ g. omega (arith, g)) tells e)

          by : (mid.counts.unsaid ≡ old.counts.unsaid) ⊎ (last ≡ plain unsaid) → NoFault shelf.before shelf.after old new
          by (inl said) = record { shelf = h.reads.faults; disk = none.disk ∙ disk; say = none.said ∙ said }
          by (inr is) = absurd (fleet-fault-ten last unsaid mid new answer is refl (λ g. omega (arith, g)) tells e)

  pub fleet-reads : ReadsAtMost (length (fleet_files wanted)) shelf.reads_before shelf.reads_after
  fleet-reads = go goes
    where
      at : (read : Read) → ReadsTo shelf (fleet_files wanted) read → ReadsAtMost (length (fleet_files wanted)) shelf.reads_before shelf.reads_after
      at read reads = (reads.count, reads-few shelf.told (fleet_files wanted) reads.count read reads.reads, reads.counted)

      go : GoesAsFleet wanted shelf old mid last → ReadsAtMost (length (fleet_files wanted)) shelf.reads_before shelf.reads_after
      go (inl h) = at (Err h.end) h.reads
      go (inr (inl h)) = at (Ok h.texts) h.reads
      go (inr (inr h)) = at (Ok h.texts) h.reads
