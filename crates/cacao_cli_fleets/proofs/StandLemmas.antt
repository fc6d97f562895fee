-- Where the clock stands behind a call of `fleet`, and that no call hides what failed.
use Rattle.std.proofs.Common.{◌≡◌, ◌⊎◌, inl, inr, ◌∙◌, refl, sym, ap, subst, arith, ℕ, ◌<◌, ◌≤◌, true, List, [], ◌∷◌, Option, Some, None, Err}
use Rattle.std.proofs.lemmas.Bool.{true≢false}
use Rattle.cacao_site.specs.View.{ClockView, SiteView}
use Rattle.flow_fleet_returns.specs.Causes.{EachFleetCloseTells, EachFleetRefusalTells, StandsAsClosed}
use Rattle.flow_fleet_steps.specs.Openings.{Runs}
use Rattle.flow_fleet_steps.specs.declared.close.FleetClose.{FleetClose}
use Rattle.flow_fleet_steps.specs.declared.close.FleetClose.TheVariants as close
use Rattle.flow_fleet_steps.specs.declared.error.FleetError.{FleetError}
use Rattle.flow_fleet_steps.specs.declared.error.FleetError.TheVariants as error
use Rattle.cacao_cli_words.specs.Requests.{FleetRequest}
use Rattle.cacao_cli_words.specs.Words.{Text}
use Rattle.cacao_cli_ends.specs.Comes.{IsOneOf, reached_statuses}
use Rattle.cacao_cli_ends.specs.Ends.{End, disk_failed, text_of, unsaid}
use Rattle.cacao_cli_ends.specs.Files.{ShelfCall}
use Rattle.cacao_cli_ends.specs.Lines.{SaysAtMostALine, Tells, TellsText}
use Rattle.cacao_cli_ends.proofs.EndLemmas.{no-more}
use Rattle.cacao_cli_ends.proofs.LineLemmas.{IsCutOff}
use Rattle.cacao_cli_ends.proofs.StatusLists.{apart-lists, not-among}
use Rattle.cacao_cli_ends.proofs.UnsaidLemmas.{last-said}
use Rattle.cacao_cli_fleets.specs.FleetEnds.{FleetEnd, SaysEnd, TellsFleet, asked_of, close_end, error_end, failed, other_book_of, plain, used_by}
use Rattle.cacao_cli_fleets.specs.FleetTexts.{fleet_files}
use Rattle.cacao_cli_fleets.specs.Fleeting.{ClosesFleet, FleetHeld, GoesAsFleet, RefusesFleet}
use Rattle.cacao_cli_fleets.specs.RackTold.{TellsOfRack}
use Rattle.cacao_cli_fleets.proofs.CauseLemmas.{fleet-disk, fleet-unsaid, line-disk}
use Rattle.cacao_cli_fleets.proofs.EndLemmas.{asked_text, failed_text, fleet-tells-status, fleet_status, other_text, used_text}
use Rattle.cacao_cli_fleets.proofs.FleetCounts.{held-said}
use Rattle.cacao_cli_fleets.proofs.OutcomeLemmas.{judged_statuses, none-listed}
use Rattle.cacao_cli_fleets.proofs.TextLemmas.{file_statuses, reads-listed}

-- ---- the last line

text-still : (end : End) (text : Option Text) (mid new : SiteView) (answer : ℕ) → TellsText end text mid new answer → SaysAtMostALine mid new
text-still end None mid new answer h = inl h.same
text-still end (Some text) mid new answer (inl (inl h)) = inr h.says.only
text-still end (Some text) mid new answer (inl (inr h)) = inr h.fails.only
text-still end (Some text) mid new answer (inr h) = inl h.same

says-still : (text : Text) (status : ℕ) (mid new : SiteView) (answer : ℕ) → SaysEnd text status mid new answer → SaysAtMostALine mid new
says-still text status mid new answer (inl (inl h)) = inr h.says.only
says-still text status mid new answer (inl (inr h)) = inr h.fails.only
says-still text status mid new answer (inr h) = inl h.same

pub line-still : (last : FleetEnd) (mid new : SiteView) (answer : ℕ) → TellsFleet last mid new answer → SaysAtMostALine mid new
line-still (plain end) mid new answer h = text-still end (text_of end) mid new answer h
line-still (failed run) mid new answer h = says-still (failed_text run) 6 mid new answer h
line-still (asked_of run issue) mid new answer h = says-still (asked_text run issue) 16 mid new answer h
line-still (other_book_of run index) mid new answer h = says-still (other_text run index) 12 mid new answer h
line-still (used_by run agent) mid new answer h = says-still (used_text run agent) 12 mid new answer h

still-short : (mid new : SiteView) → SaysAtMostALine mid new → mid.clock.now < mid.clock.asked → new.clock.now < new.clock.asked
still-short mid new (inl same) short = subst (λ (s : SiteView). s.clock.now < s.clock.asked) (sym same) short
still-short mid new (inr says) short = let now = says.time.now in let asked = says.time.asked in omega (arith, now, asked, short)

still-reached : (mid new : SiteView) → SaysAtMostALine mid new → mid.clock.asked ≤ mid.clock.now → new.clock.asked ≤ new.clock.now
still-reached mid new (inl same) le = subst (λ (s : SiteView). s.clock.asked ≤ s.clock.now) (sym same) le
still-reached mid new (inr says) le = let now = says.time.now in let asked = says.time.asked in omega (arith, now, asked, le)

-- where the answer is not 9 the last line was said, or none was to be said
says-said : (text : Text) (status : ℕ) (mid new : SiteView) (answer : ℕ) → (answer ≡ 9 → ⊥) → SaysEnd text status mid new answer → new.counts.unsaid ≡ mid.counts.unsaid
says-said text status mid new answer no9 (inl (inl h)) = h.says.unsaid
says-said text status mid new answer no9 (inl (inr h)) = absurd (no9 h.answers)
says-said text status mid new answer no9 (inr h) = ap (λ (s : SiteView). s.counts.unsaid) h.same

line-said : (last : FleetEnd) (mid new : SiteView) (answer : ℕ) → (answer ≡ 9 → ⊥) → TellsFleet last mid new answer → new.counts.unsaid ≡ mid.counts.unsaid
line-said (plain end) mid new answer no9 h = last-said end (text_of end) mid new answer h no9
line-said (failed run) mid new answer no9 h = says-said (failed_text run) 6 mid new answer no9 h
line-said (asked_of run issue) mid new answer no9 h = says-said (asked_text run issue) 16 mid new answer no9 h
line-said (other_book_of run index) mid new answer no9 h = says-said (other_text run index) 12 mid new answer no9 h
line-said (used_by run agent) mid new answer no9 h = says-said (used_text run agent) 12 mid new answer no9 h

-- a failure of the disk is told, unless its line could not be said
disk-told : (mid new : SiteView) (answer : ℕ) → Tells disk_failed mid new answer → (answer ≡ 8) ⊎ (answer ≡ 9)
disk-told mid new answer (inl (inl h)) = inl h.answers
disk-told mid new answer (inl (inr h)) = inr h.answers
disk-told mid new answer (inr h) = absurd (true≢false h.no_fault)

-- ---- how the fleet closed

close-short : (how : FleetClose) (clock : ClockView) → fleet_status (close_end how) ≡ 14 → StandsAsClosed how clock → clock.now < clock.asked
close-short (close.Waiting due) clock e is = let asked = is.asked in let short = is.short in omega (arith, asked, short)
close-short (close.Ended None) clock e is = absurd (omega (arith, e))
close-short (close.Ended (Some run)) clock e is = absurd (omega (arith, e))
close-short close.Paused clock e is = absurd (omega (arith, e))
close-short close.Flooded clock e is = absurd (omega (arith, e))
close-short (close.Asked run issue) clock e is = absurd (omega (arith, e))

close-reached : (how : FleetClose) (clock : ClockView) → (fleet_status (close_end how) ≡ 14 → ⊥) → StandsAsClosed how clock → clock.asked ≤ clock.now
close-reached (close.Waiting due) clock other is = absurd (other refl)
close-reached (close.Ended None) clock other is = is
close-reached (close.Ended (Some run)) clock other is = is
close-reached close.Paused clock other is = is
close-reached close.Flooded clock other is = is
close-reached (close.Asked run issue) clock other is = is

-- what a refusal comes to
abbrev refused_statuses : List ℕ
refused_statuses = 8 ∷ 9 ∷ 10 ∷ 11 ∷ 12 ∷ 13 ∷ []

refused-listed : (why : FleetError) → IsOneOf (fleet_status (error_end why)) refused_statuses
refused-listed error.Disk = inl refl
refused-listed error.Say = inr (inl refl)
refused-listed error.Memory = inr (inr (inl refl))
refused-listed (error.Limit what) = inr (inr (inr (inl refl)))
refused-listed (error.OtherRun held asked) = inr (inr (inr (inr (inl refl))))
refused-listed (error.OtherBook run index) = inr (inr (inr (inr (inl refl))))
refused-listed (error.RunUsed run agent) = inr (inr (inr (inr (inl refl))))
refused-listed (error.Damaged file place) = inr (inr (inr (inr (inr (inl refl)))))

module _ (tells_close : EachFleetCloseTells) (runs : Runs) (most : ℕ) (old mid : SiteView) (last : FleetEnd) (h : FleetHeld runs most old mid last) where
  held-short : fleet_status last ≡ 14 → mid.clock.now < mid.clock.asked
  held-short e = go h.held
    where
      go : ClosesFleet runs most old mid last ⊎ RefusesFleet runs most old mid last → mid.clock.now < mid.clock.asked
      go (inl c) = close-short c.close mid.clock (sym (ap fleet_status c.ends) ∙ e) (tells_close c.close runs most old mid c.closed).clock
      go (inr r) = absurd (not-among 14 refused_statuses refl (subst (λ (n : ℕ). IsOneOf n refused_statuses) (sym (ap fleet_status r.ends) ∙ e) (refused-listed r.error)))

  held-reached : IsOneOf (fleet_status last) reached_statuses → mid.clock.asked ≤ mid.clock.now
  held-reached one = go h.held
    where
      go : ClosesFleet runs most old mid last ⊎ RefusesFleet runs most old mid last → mid.clock.asked ≤ mid.clock.now
      go (inl c) = close-reached c.close mid.clock (λ e. not-among 14 reached_statuses refl (subst (λ (n : ℕ). IsOneOf n reached_statuses) (ap fleet_status c.ends ∙ e) one))
          (tells_close c.close runs most old mid c.closed).clock
      go (inr r) = absurd (apart-lists (fleet_status last) reached_statuses refused_statuses refl one (subst (λ (x : FleetEnd). IsOneOf (fleet_status x) refused_statuses) (sym r.ends) (refused-listed r.error)))

-- ---- the call

module _ (wanted : FleetRequest) (shelf : ShelfCall) (old mid new : SiteView) (last : FleetEnd) (answer : ℕ)
    (goes : GoesAsFleet wanted shelf old mid last) (tells : TellsFleet last mid new answer) where
  -- where it answers neither 8 nor 9, no call of the disk failed
  pub fleet-unfailed : (answer ≡ 8 → ⊥) → (answer ≡ 9 → ⊥) → new.disk.faults ≡ old.disk.faults
  fleet-unfailed no8 no9 = line-disk last mid new answer tells ∙ go goes
    where
      not-failed : last ≡ plain disk_failed → ⊥
      not-failed is = elim (disk-told mid new answer (subst (λ (x : FleetEnd). TellsFleet x mid new answer) is tells)) [ inl e ↦ no8 e | inr e ↦ no9 e ]

      go : GoesAsFleet wanted shelf old mid last → mid.disk.faults ≡ old.disk.faults
      go (inl h) = ap (λ (s : SiteView). s.disk.faults) h.same
      go (inr (inl h)) = ap (λ (s : SiteView). s.disk.faults) h.same
      go (inr (inr h)) = h.holds.steady not-failed

  -- where it does not answer 9, each line was said
  pub fleet-said : (answer ≡ 9 → ⊥) → new.counts.unsaid ≡ old.counts.unsaid
  fleet-said no9 = line-said last mid new answer no9 tells ∙ go goes
    where
      by : (mid.counts.unsaid ≡ old.counts.unsaid) ⊎ (last ≡ plain unsaid) → mid.counts.unsaid ≡ old.counts.unsaid
      by (inl same) = same
      by (inr is) = absurd (no9 (no-more unsaid unsaid mid new answer refl refl (subst (λ (x : FleetEnd). TellsFleet x mid new answer) is tells)).1)

      go : GoesAsFleet wanted shelf old mid last → mid.counts.unsaid ≡ old.counts.unsaid
      go (inl h) = ap (λ (s : SiteView). s.counts.unsaid) h.same
      go (inr (inl h)) = ap (λ (s : SiteView). s.counts.unsaid) h.same
      go (inr (inr h)) = by (held-said h.runs wanted.most old mid last h.holds)

  -- an answer that no cut off line gives is the status of the end
  seen-in : (ms : List ℕ) → (IsOneOf answer ms → IsCutOff answer → ⊥) → IsOneOf answer ms → IsOneOf (fleet_status last) ms
  seen-in ms apart one = go (fleet-tells-status last mid new answer tells)
    where
      go : (answer ≡ fleet_status last) ⊎ IsCutOff answer → IsOneOf (fleet_status last) ms
      go (inl is) = subst (λ (n : ℕ). IsOneOf n ms) is one
      go (inr cut) = absurd (apart one cut)

  module _ (tells_close : EachFleetCloseTells) where
    -- where it says that the fleet waits, the clock stands before what it was asked for
    pub fleet-short : answer ≡ 14 → new.clock.now < new.clock.asked
    fleet-short e = still-short mid new (line-still last mid new answer tells) (go goes (seen-in (14 ∷ []) (apart-lists answer (14 ∷ []) (9 ∷ 10 ∷ []) refl) (inl e)))
      where
        go : GoesAsFleet wanted shelf old mid last → IsOneOf (fleet_status last) (14 ∷ []) → mid.clock.now < mid.clock.asked
        go (inl h) one = absurd (apart-lists (fleet_status last) (14 ∷ []) file_statuses refl one (subst (λ (x : FleetEnd). IsOneOf (fleet_status x) file_statuses) (sym h.ends)
            (reads-listed shelf.told (fleet_files wanted) h.reads.count (Err h.end) h.end h.reads.reads refl)))
        go (inr (inl h)) one = absurd (apart-lists (fleet_status last) (14 ∷ []) judged_statuses refl one (none-listed h.texts last h.why))
        go (inr (inr h)) (inl is) = held-short tells_close h.runs wanted.most old mid last h.holds is
        go (inr (inr h)) (inr never) = absurd never

    -- where it says that its runs ended, paused, took too many parcels or ask, the clock came to that
    pub fleet-reached : IsOneOf answer reached_statuses → new.clock.asked ≤ new.clock.now
    fleet-reached some = still-reached mid new (line-still last mid new answer tells) (go goes (seen-in reached_statuses (apart-lists answer reached_statuses (9 ∷ 10 ∷ []) refl) some))
      where
        go : GoesAsFleet wanted shelf old mid last → IsOneOf (fleet_status last) reached_statuses → mid.clock.asked ≤ mid.clock.now
        go (inl h) one = absurd (apart-lists (fleet_status last) reached_statuses file_statuses refl one (subst (λ (x : FleetEnd). IsOneOf (fleet_status x) file_statuses) (sym h.ends)
            (reads-listed shelf.told (fleet_files wanted) h.reads.count (Err h.end) h.end h.reads.reads refl)))
        go (inr (inl h)) one = absurd (apart-lists (fleet_status last) reached_statuses judged_statuses refl one (none-listed h.texts last h.why))
        go (inr (inr h)) one = held-reached tells_close h.runs wanted.most old mid last h.holds one

  pub fleet-tells-rack : EachFleetRefusalTells → EachFleetCloseTells → TellsOfRack old new answer
  fleet-tells-rack tells_refusal tells_close = record {
    disk_failed = fleet-disk tells_refusal wanted shelf old mid new last answer goes tells;
    disk_steady = fleet-unfailed;
    unsaid = fleet-unsaid tells_refusal wanted shelf old mid new last answer goes tells;
    said = fleet-said;
    stands_short = fleet-short tells_close;
    stands_reached = fleet-reached tells_close;
  }
