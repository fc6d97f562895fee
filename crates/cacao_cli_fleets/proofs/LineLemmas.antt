-- The last line of a call of `fleet` is no record's, so that all agrees up to the end of the call.
use Rattle.std.proofs.Common.{◌≡◌, ◌⊎◌, inl, inr, ◌∙◌, refl, sym, ap, subst, ℕ, List, [], ◌∷◌, ◌++◌, Option, Some, None, codes, false}
use Rattle.std.specs.Prelude.{IsSome, IsTrue, decimal, map}
use Rattle.cacao_site.specs.Sound.{IsSound}
use Rattle.cacao_site.specs.View.{SiteView}
use Rattle.flow_core_rules.specs.Laws.{is_digit}
use Rattle.flow_fleet_laws.specs.Events.{Event, Events, EventsKeepFleets}
use Rattle.flow_fleet_laws.specs.Events.Event.{other_line, shrinks}
use Rattle.flow_fleet_laws.specs.Events.Events.{and_then, nothing}
use Rattle.flow_fleet_laws.specs.Fleets.{AreRuns, IsFleetStart, KeepsEach}
use Rattle.flow_fleet_laws.specs.Lines.{IsNoRecords, OtherLines}
use Rattle.flow_fleet_laws.specs.Speeches.Form.{with_numbers}
use Rattle.flow_fleet_laws.specs.Shrinking.{KeptShrinks}
use Rattle.flow_fleet_steps.specs.Openings.{numbers}
use Rattle.cacao_cli_words.specs.Requests.{FleetRequest}
use Rattle.cacao_cli_words.specs.Words.{Text}
use Rattle.cacao_cli_ends.specs.Ends.{End, text_of, done, accepted, agrees, disagrees, refused, bind_refused, ended_ok, ended_failed, paused, waiting, flooded, asked_for, other_run, other_book, run_used, not_understood, past, shelf_failed, no_such_file, not_readable, rehearsed, damaged, disk_failed, peers_failed, unsaid, no_memory}
use Rattle.cacao_cli_ends.specs.Files.{ShelfCall}
use Rattle.cacao_cli_ends.specs.Lines.{FailsToSay, SaysLine, SaysOrFails, Tells, TellsText}
use Rattle.cacao_cli_fleets.specs.FleetEnds.{FleetEnd, SaysEnd, TellsFleet, asked_of, failed, other_book_of, plain, used_by}
use Rattle.cacao_cli_fleets.specs.Fleeting.{GoesAsFleet, HoldsFleet}
use Rattle.cacao_cli_fleets.proofs.EndLemmas.{asked_text, failed_text, other_text, used_text}
use Rattle.cacao_cli_fleets.proofs.RunLemmas.{numbers_of}

-- a text that begins with no digit
abbrev BeginsOther : Option Text → Type 0
BeginsOther None = Unit {0}
BeginsOther (Some []) = ⊥
BeginsOther (Some (c ∷ text)) = is_digit c ≡ false

begins : (end : End) → BeginsOther (text_of end)
begins done = tt
begins accepted = refl
begins (refused broken) = refl
begins (bind_refused rule) = refl
begins ended_ok = refl
begins ended_failed = refl
begins paused = refl
begins (waiting moment) = refl
begins flooded = refl
begins (asked_for issue) = refl
begins (other_run held asked) = refl
begins (other_book index) = refl
begins (run_used agent) = refl
begins not_understood = refl
begins (past limit) = refl
begins (shelf_failed name) = refl
begins (no_such_file name) = refl
begins (not_readable name reason) = refl
begins (agrees records acts) = refl
begins (disagrees file place) = refl
begins (rehearsed positions records acts rules) = refl
begins (damaged file place) = refl
begins peers_failed = refl
begins disk_failed = refl
begins unsaid = tt
begins no_memory = tt

module _ (other_lines : OtherLines) (kept_shrinks : KeptShrinks) (runs : List ℕ) (start mid new : SiteView) (events : Events with_numbers runs start mid) (sound : IsSound mid) where
  said : (line : Text) → IsNoRecords line → SaysLine line mid new → Events with_numbers runs start new
  said line other says = and_then events sound (other_line line other says.only.disk says.only.puts says.said)

  unsaid-line : FailsToSay mid new → Events with_numbers runs start new
  unsaid-line fails = and_then events sound (shrinks (kept_shrinks mid new fails.only.disk fails.only.puts fails.said))

  still : new ≡ mid → Events with_numbers runs start new
  still is = subst (λ (s : SiteView). Events with_numbers runs start s) (sym is) events

  says-or-fails : (line : Text) (status answer : ℕ) → IsNoRecords line → SaysOrFails line status mid new answer → Events with_numbers runs start new
  says-or-fails line status answer other (inl h) = said line other h.says
  says-or-fails line status answer other (inr h) = unsaid-line h.fails

  tells-text : (end : End) (text : Option Text) (answer : ℕ) → BeginsOther text → TellsText end text mid new answer → Events with_numbers runs start new
  tells-text end None answer other h = still h.same
  tells-text end (Some []) answer other h = absurd other
  tells-text end (Some (c ∷ text)) answer other (inl h) = says-or-fails ((c ∷ text) ++ codes "\n") _ answer (other_lines.no_number c (text ++ codes "\n") other) h
  tells-text end (Some (c ∷ text)) answer other (inr h) = still h.same

  says-end : (text : Text) (status answer : ℕ) → BeginsOther (Some text) → SaysEnd text status mid new answer → Events with_numbers runs start new
  says-end [] status answer other h = absurd other
  says-end (c ∷ text) status answer other (inl h) = says-or-fails ((c ∷ text) ++ codes "\n") status answer (other_lines.no_number c (text ++ codes "\n") other) h
  says-end (c ∷ text) status answer other (inr h) = still h.same

  pub tells-events : (last : FleetEnd) (answer : ℕ) → TellsFleet last mid new answer → Events with_numbers runs start new
  tells-events (plain end) answer h = tells-text end (text_of end) answer (begins end) h
  tells-events (failed run) answer h = says-end (failed_text run) 6 answer refl h
  tells-events (asked_of run issue) answer h = says-end (asked_text run issue) 16 answer refl h
  tells-events (other_book_of run index) answer h = says-end (other_text run index) 12 answer refl h
  tells-events (used_by run agent) answer h = says-end (used_text run agent) 12 answer refl h

-- where each run might begin, all agrees for each of them at each beat of the call
pub fleet-agrees : OtherLines → KeptShrinks → EventsKeepFleets → (wanted : FleetRequest) (shelf : ShelfCall) (old mid new : SiteView) (last : FleetEnd) (answer : ℕ) → IsSound mid → AreRuns with_numbers (numbers_of wanted.runs)
    → GoesAsFleet wanted shelf old mid last → TellsFleet last mid new answer → IsFleetStart old (numbers_of wanted.runs) → KeepsEach (numbers_of wanted.runs) old new
fleet-agrees lines kept keep wanted shelf old mid new last answer sound are goes tells start =
    keep (numbers_of wanted.runs) old new are start (tells-events lines kept (numbers_of wanted.runs) old mid new (go goes) sound last answer tells)
  where
    same : mid ≡ old → Events with_numbers (numbers_of wanted.runs) old mid
    same is = subst (λ (s : SiteView). Events with_numbers (numbers_of wanted.runs) old s) (sym is) nothing

    go : GoesAsFleet wanted shelf old mid last → Events with_numbers (numbers_of wanted.runs) old mid
    go (inl h) = same h.same
    go (inr (inl h)) = same h.same
    go (inr (inr h)) = subst (λ (ns : List ℕ). Events with_numbers ns old mid) h.ready.numbered (h.holds.events start.told start.puts start.pending)
