-- The clauses of a call whose words ask for a fleet.
use Rattle.std.proofs.Common.{◌≡◌, inl, inr, ◌∙◌, refl, sym, ap, subst, arith, ℕ, ◌≤◌, Bool, true, false, List, [], ◌∷◌, length, map, Option, Some, None}
use Rattle.std.specs.Prelude.{IfSome, IsTrue, nat_eq}
use Rattle.std.specs.List.{list_any}
use Rattle.cacao_site.specs.Counts.{next_count}
use Rattle.cacao_site.specs.View.{SiteView}
use Rattle.cacao_cli_words.specs.Requests.{FleetRequest, fleet_of}
use Rattle.cacao_cli_words.specs.Commands.{fleet_request_by}
use Rattle.cacao_cli_words.specs.RunBooks.{run_of}
use Rattle.cacao_cli_words.specs.declared.fleet_words.FleetWords.{FleetWords}
use Rattle.cacao_cli_words.specs.declared.run_book.RunBook.{RunBook}
use Rattle.cacao_cli_words.proofs.ClapRules.{same}
use Rattle.cacao_cli_ends.specs.Comes.{IsOneOf, reached_statuses}
use Rattle.cacao_cli_ends.specs.Ends.{End, no_memory}
use Rattle.cacao_cli_ends.specs.Files.{Counts, ShelfCall}
use Rattle.cacao_cli_ends.specs.Lines.{SaysNoMore, Tells}
use Rattle.cacao_cli_ends.specs.Stays.{NoFault, ReadsAtMost}
use Rattle.cacao_cli_ends.proofs.ReadLemmas.{counts-none}
use Rattle.cacao_cli_ends.proofs.StatusLists.{not-among, widen}
use Rattle.flow_laws.proofs.Calls.{since_start}
use Rattle.flow_fleet_laws.specs.Fleets.{IsFleetStart, KeepsEach}
use Rattle.flow_fleet_laws.specs.Speeches.{numbered}
use Rattle.flow_fleet_laws.specs.Views.{seen_from}
use Rattle.cacao_cli_fleets.specs.FleetTexts.{fleet_files}
use Rattle.cacao_cli_fleets.specs.RackTold.{TellsFleetRack, TellsOfRack}
use Rattle.cacao_cli_fleets.proofs.OutcomeLemmas.{fleet-failed, fleet-memory, fleet-own, fleet-reads, judged_statuses}
use Rattle.cacao_cli_fleets.proofs.EndLemmas.{held_statuses}
use Rattle.cacao_cli_fleets.proofs.TextLemmas.{file_statuses}
use Rattle.cacao_cli.specs.WithFleets.{AgreesForEach, EndedFleet, EndsWithFleet, FindsNoDamage, IsFleetStatus, KeepsRuns, WantsForWords, fleet_statuses, run_numbers}

none-some : (wanted : FleetRequest) → None ≡ Some wanted → ⊥
none-some wanted e = cc

module _ (wanted : FleetRequest) (shelf : ShelfCall) (old new : SiteView) (answer : ℕ) (h : EndedFleet wanted shelf old new answer) where
  pub ended-own : IsOneOf answer fleet_statuses
  ended-own = fleet-own wanted shelf old h.between new h.last answer h.goes h.tells fleet_statuses
      (λ n. widen n file_statuses fleet_statuses refl) (λ n. widen n judged_statuses fleet_statuses refl) (λ n. widen n held_statuses fleet_statuses refl) (widen answer (9 ∷ 10 ∷ []) fleet_statuses refl)

  pub ended-never : (m : ℕ) → list_any (nat_eq m) fleet_statuses ≡ false → answer ≡ m → ⊥
  ended-never m none e = not-among m fleet_statuses none (subst (λ (n : ℕ). IsOneOf n fleet_statuses) e ended-own)

  pub ended-failed : answer ≡ 3 → shelf.after ≡ next_count shelf.before
  ended-failed = fleet-failed wanted shelf old h.between new h.last answer h.goes h.tells

  pub ended-memory : answer ≡ 10 → NoFault shelf.before shelf.after old new
  ended-memory = fleet-memory wanted shelf old h.between new h.last answer h.goes h.tells

  pub ended-reads : ReadsAtMost (length (fleet_files wanted)) shelf.reads_before shelf.reads_after
  ended-reads = fleet-reads wanted shelf old h.between new h.last answer h.goes h.tells

-- ---- by the words

pub some-none : {asked : Option FleetRequest} (wanted : FleetRequest) → asked ≡ Some wanted → asked ≡ None → ⊥
some-none wanted is none = none-some wanted (sym none ∙ is)

pub own-fleet : (asked : Option FleetRequest) (wanted : FleetRequest) (answer : ℕ) → asked ≡ Some wanted → IsOneOf answer fleet_statuses → IsFleetStatus asked answer
own-fleet asked wanted answer is h = subst (λ (a : Option FleetRequest). IsFleetStatus a answer) (sym is) h

-- where nothing was done all agrees as it did
kept-as : (wanted : FleetRequest) {old new : SiteView} → new ≡ old → IsFleetStart old (run_numbers wanted) → KeepsEach (run_numbers wanted) old new
kept-as wanted {old} {new} same start =
    subst (λ (site : SiteView). KeepsEach (run_numbers wanted) old site) (sym same)
    (λ place run at. since_start (numbered run) (seen_from place old) start.told (start.start place run at))

-- words that ask for none, or for which memory was wanted
module _ (asked : Option FleetRequest) (short : Bool) (none : short ≡ false → asked ≡ None) (shelf : ShelfCall) (old new : SiteView) (answer : ℕ) (wants : short ≡ true → WantsForWords shelf old new answer) where
  pub fleetless : EndsWithFleet asked shelf old new answer × (KeepsRuns asked old new × IsFleetStatus asked answer)
  fleetless = go short refl asked refl
    where
      go : (b : Bool) → b ≡ short → (a : Option FleetRequest) → a ≡ asked → EndsWithFleet a shelf old new answer × (KeepsRuns a old new × IsFleetStatus a answer)
      go b is None at = (tt, (tt, tt))
      go false is (Some wanted) at = absurd (none-some wanted (sym (none (sym is)) ∙ sym at))
      go true is (Some wanted) at =
          let w = wants (sym is) in
          (inr w, (λ start. kept-as wanted w.same start, subst (λ (n : ℕ). IsOneOf n fleet_statuses) (sym w.answers) ten))
        where
          ten : IsOneOf 10 fleet_statuses
          ten = inr (inr (inr (inr (inr (inr (inr (inr (inr (inl refl)))))))))

-- memory was wanted for the words: nothing was done, and no last line is said
pub wants-words : (last : End) (shelf : ShelfCall) (old mid new : SiteView) (answer : ℕ) → last ≡ no_memory → shelf.reads_after ≡ shelf.reads_before
    → shelf.after ≡ shelf.before → mid ≡ old → Tells last mid new answer → WantsForWords shelf old new answer
wants-words last shelf old mid new answer is reads faults same tells =
    let said : SaysNoMore 10 mid new answer = subst (λ (e : End). Tells e mid new answer) is tells in
    record { same = said.same ∙ same; reads = reads; faults = faults; answers = said.answers }

-- a fleet names a playbook at least
pub names-some : (runs : List RunBook) (most : ℕ) → 1 ≤ length runs → fleet_files (fleet_of most (map run_of runs)) ≡ [] → ⊥
names-some [] most some e = omega (arith, some)
names-some (one ∷ runs) most some e = cc

pub by-short : (short : Bool) (T : Type 0) → (short ≡ true → T) → (short ≡ false → T) → T
by-short true T wants alone = wants refl
by-short false T wants alone = alone refl

-- no file was read
pub reads-none : (most : ℕ) (old new : Option ℕ) → new ≡ old → ReadsAtMost most old new
reads-none most old new e = (0, omega arith, subst (Counts old 0) (sym e) (counts-none old))

-- what the words ask for, once they were read
pub fleet-is : (asked : Option FleetRequest) {found : Option FleetWords} {wanted : FleetWords} → found ≡ Some wanted
    → IfSome found (λ w. asked ≡ Some (fleet_request_by w)) → asked ≡ Some (fleet_request_by wanted)
fleet-is asked is some = subst (λ (o : Option FleetWords). IfSome o (λ w. asked ≡ Some (fleet_request_by w))) is some

-- ---- what the status tells of the rack

pub rack-fleet : (asked : Option FleetRequest) (wanted : FleetRequest) (old new : SiteView) (answer : ℕ) → asked ≡ Some wanted → TellsOfRack old new answer → TellsFleetRack asked old new answer
rack-fleet asked wanted old new answer is h = subst (λ (a : Option FleetRequest). TellsFleetRack a old new answer) (sym is) h

pub rackless : (asked : Option FleetRequest) (short : Bool) (shelf : ShelfCall) (old new : SiteView) (answer : ℕ) → (short ≡ false → asked ≡ None) → (short ≡ true → WantsForWords shelf old new answer) → TellsFleetRack asked old new answer
rackless None short shelf old new answer none wants = tt
rackless (Some wanted) short shelf old new answer none wants = go short refl
  where
    go : (b : Bool) → b ≡ short → TellsOfRack old new answer
    go false is = absurd (some-none wanted refl (none (sym is)))
    go true is =
        let w = wants (sym is) in
        let ten = w.answers in
        record {
          disk_failed = λ e. absurd (omega (arith, ten, e));
          disk_steady = λ no8 no9. ap (λ (s : SiteView). s.disk.faults) w.same;
          unsaid = λ e. absurd (omega (arith, ten, e));
          said = λ no9. ap (λ (s : SiteView). s.counts.unsaid) w.same;
          stands_short = λ e. absurd (omega (arith, ten, e));
          stands_reached = λ one. absurd (not-among 10 reached_statuses refl (subst (λ (n : ℕ). IsOneOf n reached_statuses) ten one));
        }

pub undamaged-fleet : (asked : Option FleetRequest) (wanted : FleetRequest) (old : SiteView) (answer : ℕ) → asked ≡ Some wanted → (IsTrue old.disk.told → AgreesForEach wanted old → answer ≡ 13 → ⊥) → FindsNoDamage asked old answer
undamaged-fleet asked wanted old answer is h = subst (λ (a : Option FleetRequest). FindsNoDamage a old answer) (sym is) h

pub undamaged-none : (asked : Option FleetRequest) (short : Bool) (shelf : ShelfCall) (old new : SiteView) (answer : ℕ) → (short ≡ false → asked ≡ None) → (short ≡ true → WantsForWords shelf old new answer) → FindsNoDamage asked old answer
undamaged-none None short shelf old new answer none wants = tt
undamaged-none (Some wanted) short shelf old new answer none wants = go short refl
  where
    go : (b : Bool) → b ≡ short → IsTrue old.disk.told → AgreesForEach wanted old → answer ≡ 13 → ⊥
    go false is told good e = some-none wanted refl (none (sym is))
    go true is told good e = let ten = (wants (sym is)).answers in omega (arith, ten, e)
