-- Calls in a row keep the agreement of each run that is watched: of those that take part, and of others.
use Rattle.std.proofs.Common.{◌≡◌, ◌≢◌, inl, inr, ℕ, ◌<◌, ◌≤◌, ◌^◌, List, sym, ◌∙◌, subst, ap, arith}
use Rattle.std.specs.Prelude.{Some}
use Rattle.std.proofs.lemmas.Bool.{cases_eq}
use Rattle.cacao_site.specs.View.{SiteView}
use Rattle.cacao_site.specs.Sound.{IsSound}
use Rattle.flow_laws.specs.Fresh.{IsFresh}
use Rattle.flow_laws.specs.Since.{AgreedSince}
use Rattle.flow_laws.proofs.Basics.{same_some}
use Rattle.flow_laws.proofs.Calls.{since_start}
use Rattle.flow_fleet_laws.specs.Events.{AllOwn, CommandBy, Event, EventsKeepBothForms, EventsKeepEach, LineBy, RecordBy, EventsKeepFleets}
use Rattle.flow_fleet_laws.specs.Events.Event.{shrinks, record_by, line_by, other_line, command_by, act_by, reply_by}
use Rattle.flow_fleet_laws.specs.Events.Events.{nothing, and_then}
use Rattle.flow_fleet_laws.specs.Fleets.{AreRuns, IsAt, IsItsOwn}
use Rattle.flow_fleet_laws.specs.Speeches.{Form, spoken}
use Rattle.flow_fleet_laws.specs.Speeches.Form.{without_numbers, with_numbers}
use Rattle.flow_fleet_laws.specs.Views.{seen_from}
use Rattle.flow_fleet_laws.proofs.Lines.{Apart}
use Rattle.flow_fleet_laws.proofs.Others.{act_kept, none_line, others_command, others_line, others_record, own_command, own_line, own_record, reply_kept, shrunk}
use Rattle.flow_fleet_laws.proofs.Places.{below, low}

only_first : (runs : List ℕ) → AreRuns without_numbers runs → (place run : ℕ) → IsAt runs place run → place ≡ 0
only_first runs are place run at = omega (arith, below runs place run at, are.few)

-- ---- a run that is watched, and in which form

pub record IsWatched (form other : Form) (runs : List ℕ) (place run : ℕ) : Type 0 where
  pub low : place ≤ 15
  pub small : run < 2 ^ 64
  pub takes_part : (number : ℕ) → IsAt runs place number → number ≡ run
  pub numbers : (taken number : ℕ) → IsAt runs taken number → taken ≢ place → number ≢ run
  pub lines : (taken number : ℕ) → IsAt runs taken number → taken ≢ place → Apart form other number run

-- two places have two numbers
differ : (form : Form) (runs : List ℕ) → AreRuns form runs → (place other run number : ℕ) → IsAt runs place run → IsAt runs other number → other ≢ place → number ≢ run
differ form runs are place other run number at there ne same = ne (are.once place other run at (there ∙ ap Some same))

apart_here : (form : Form) (runs : List ℕ) → AreRuns form runs → (place other run number : ℕ) → IsAt runs place run → IsAt runs other number → other ≢ place → Apart form form number run
apart_here without_numbers runs are place other run number at there ne = absurd (ne (only_first runs are other number there ∙ sym (only_first runs are place run at)))
apart_here with_numbers runs are place other run number at there ne = differ with_numbers runs are place other run number at there ne

-- those that take part are watched in their own form
watched : (form : Form) (runs : List ℕ) → AreRuns form runs → (place run : ℕ) → IsAt runs place run → IsWatched form form runs place run
watched form runs are place run at = record {
  low = low form runs are place run at;
  small = are.small place run at;
  takes_part = λ number there. same_some (sym there ∙ at);
  numbers = λ taken number there ne. differ form runs are place taken run number at there ne;
  lines = λ taken number there ne. apart_here form runs are place taken run number at there ne;
}

-- and the first one in the other form too
apart_first : (form other : Form) (runs : List ℕ) → AreRuns form runs → (taken run number : ℕ) → IsAt runs 0 run → IsAt runs taken number → taken ≢ 0 → Apart form other number run
apart_first without_numbers without_numbers runs are taken run number at there ne = apart_here without_numbers runs are 0 taken run number at there ne
apart_first without_numbers with_numbers runs are taken run number at there ne = tt
apart_first with_numbers without_numbers runs are taken run number at there ne = tt
apart_first with_numbers with_numbers runs are taken run number at there ne = apart_here with_numbers runs are 0 taken run number at there ne

watched_first : (form other : Form) (runs : List ℕ) → AreRuns form runs → (run : ℕ) → IsAt runs 0 run → IsWatched form other runs 0 run
watched_first form other runs are run at = record {
  low = omega arith;
  small = are.small 0 run at;
  takes_part = λ number there. same_some (sym there ∙ at);
  numbers = λ taken number there ne. differ form runs are 0 taken run number at there ne;
  lines = λ taken number there ne. apart_first form other runs are taken run number at there ne;
}

-- ---- one call

-- all agreed so far for a run that takes part, and its number was fresh
abbrev pub IsAgreedAndFresh : Form → ℕ → ℕ → SiteView → SiteView → Type 0
IsAgreedAndFresh form place run start old = AgreedSince (spoken form run) (seen_from place start) (seen_from place old) × IsFresh (seen_from place start) run start.disk.beat

-- its own line, in its form or in the other
line_here : (form other : Form) (place run : ℕ) (start old new : SiteView) → IsSound old → AgreedSince (spoken other run) (seen_from place start) (seen_from place old)
    → run < 2 ^ 64 → IsItsOwn old place run → LineBy form place run old new → AgreedSince (spoken other run) (seen_from place start) (seen_from place new)
line_here without_numbers without_numbers place run start old new sound so_far small own by = own_line without_numbers place run start old new sound so_far by
line_here with_numbers with_numbers place run start old new sound so_far small own by = own_line with_numbers place run start old new sound so_far by
line_here without_numbers with_numbers place run start old new sound so_far small own by =
    others_line with_numbers place run start old new sound so_far without_numbers place run small small tt own own by
line_here with_numbers without_numbers place run start old new sound so_far small own by =
    others_line without_numbers place run start old new sound so_far with_numbers place run small small tt own own by

module _ (form other : Form) (runs : List ℕ) (are : AreRuns form runs) (place run : ℕ) (is : IsWatched form other runs place run) (start old new : SiteView) (sound : IsSound old)
    (mine : AllOwn runs old → IsItsOwn old place run)
    (agreed : IsAt runs place run → IsAgreedAndFresh form place run start old)
    (so_far : AgreedSince (spoken other run) (seen_from place start) (seen_from place old)) where
  abbrev Next : Type 0
  Next = AgreedSince (spoken other run) (seen_from place start) (seen_from place new)

  at_place : (taken number : ℕ) → IsAt runs taken number → taken ≡ place → IsAt runs place number
  at_place taken number there same = subst (λ (p : ℕ). IsAt runs p number) same there

  record_kept : (taken number : ℕ) → IsAt runs taken number → RecordBy form taken number start old new → Next
  record_kept taken number there by = elim (cases_eq taken place) [
    | inl same ↦
        let here = at_place taken number there same in
        let number_is = is.takes_part number here in
        let was = agreed (subst (λ (n : ℕ). IsAt runs place n) number_is here) in
        own_record other place run start old new sound so_far form was.0 was.1
        (subst (λ (n : ℕ). RecordBy form place n start old new) number_is (subst (λ (p : ℕ). RecordBy form p number start old new) same by))
    | inr ne ↦ others_record other place run start old new sound so_far taken _ is.low (low form runs are taken number there) ne by.only
  ]

  line_kept : (taken number : ℕ) → IsAt runs taken number → AllOwn runs old → LineBy form taken number old new → Next
  line_kept taken number there own by = elim (cases_eq taken place) [
    | inl same ↦
        let number_is = is.takes_part number (at_place taken number there same) in
        line_here form other place run start old new sound so_far is.small (mine own)
        (subst (λ (n : ℕ). LineBy form place n old new) number_is (subst (λ (p : ℕ). LineBy form p number old new) same by))
    | inr ne ↦ others_line other place run start old new sound so_far form taken number (are.small taken number there) is.small (is.lines taken number there ne)
        (own taken number there) (mine own) by
  ]

  command_kept : (taken number : ℕ) → IsAt runs taken number → AllOwn runs old → CommandBy taken number old new → Next
  command_kept taken number there own by = elim (cases_eq taken place) [
    | inl same ↦
        let number_is = is.takes_part number (at_place taken number there same) in
        own_command other place run start old new sound so_far
        (subst (λ (n : ℕ). CommandBy place n old new) number_is (subst (λ (p : ℕ). CommandBy p number old new) same by))
    | inr ne ↦ others_command other place run start old new sound so_far taken number (is.numbers taken number there ne) (mine own) by
  ]

  event_kept : Event form runs start old new → Next
  event_kept (shrinks only) = shrunk other place run start old new sound so_far only
  event_kept (record_by taken number there by) = record_kept taken number there by
  event_kept (line_by taken number there own by) = line_kept taken number there own by
  event_kept (other_line line none disk puts gained) = none_line other place run start old new sound so_far line none disk puts gained
  event_kept (command_by taken number there own by) = command_kept taken number there own by
  event_kept (act_by agent by) = act_kept other place run start old new sound so_far agent by
  event_kept (reply_by by) = reply_kept other place run start old new sound so_far by

pub event_kept_by : (form other : Form) (runs : List ℕ) → AreRuns form runs → (place run : ℕ) → IsWatched form other runs place run → (start old new : SiteView) → IsSound old
    → (AllOwn runs old → IsItsOwn old place run) → (IsAt runs place run → IsAgreedAndFresh form place run start old)
    → AgreedSince (spoken other run) (seen_from place start) (seen_from place old) → Event form runs start old new → AgreedSince (spoken other run) (seen_from place start) (seen_from place new)
event_kept_by form other runs are place run is start old new sound mine agreed so_far event = event_kept form other runs are place run is start old new sound mine agreed so_far event

-- ---- calls in a row

pub events_keep_each : EventsKeepEach
events_keep_each form runs start site are told begins nothing place run at = since_start (spoken form run) (seen_from place start) told (begins place run at).0
events_keep_each form runs start site are told begins (and_then {old} {new} before sound event) place run at =
    let so_far = events_keep_each form runs start old are told begins before place run at in
    event_kept_by form form runs are place run (watched form runs are place run at) start old new sound (λ own. own place run at)
    (λ here. (so_far, (begins place run at).1)) so_far event

pub events_keep_both_forms : EventsKeepBothForms
events_keep_both_forms form other runs start site are told begins nothing run at is = since_start (spoken other run) (seen_from 0 start) told is
events_keep_both_forms form other runs start site are told begins (and_then {old} {new} before sound event) run at is =
    let so_far = events_keep_both_forms form other runs start old are told begins before run at is in
    event_kept_by form other runs are 0 run (watched_first form other runs are run at) start old new sound (λ own. own 0 run at)
    (λ here. (events_keep_each form runs start old are told begins before 0 run at, (begins 0 run at).1)) so_far event

pub events_keep_fleets : EventsKeepFleets
events_keep_fleets runs start site are begins events =
    events_keep_each with_numbers runs start site are begins.told (λ place run at. (begins.start place run at, begins.fresh place run at)) events
