-- Promise: What a session adds up to, from any of its worlds to a later one.
use Rattle.std.specs.Prelude.{◌≡◌, ◌⊎◌, ℕ, ◌+◌, ◌*◌, ◌≤◌, Bool, true, false, List, [], ◌∷◌, ◌++◌, length, All, Some, slice_get}
use Rattle.cacao_site.specs.LinkCalls.{GainsAll}
use Rattle.cacao_site.specs.View.{device_calls}
use Rattle.run_journal.specs.Durable.{header_calls}
use Rattle.run_records.specs.declared.record.Record.{Record}
use Rattle.run_records.specs.Ranges.{last_moment}
use Rattle.flow_core_rules.specs.Changes.{moment_of}
use Rattle.flow_engine.specs.Histories.{IsLineAt}
use Rattle.slpf_actuator.specs.ActuatorView.{ActuatorView}
use Rattle.flow_world_steps.specs.Steps.{Step, Steps}
use Rattle.flow_world_steps.specs.Turns.{ComesNext, most_ignored}
use Rattle.flow_world_steps.specs.Worlds.{World, Phase, opened, refused, owes_line}

-- ---- records

-- the moment of a record lies between those at which the clock stood
abbrev pub IsBetween : ℕ → ℕ → Record → Type 0
IsBetween from to r = (from ≤ moment_of r) × (moment_of r ≤ to)

-- The records that were appended: each at a moment of the session, and no more than were left.
pub record Adds (a b : World) : Type 0 where
  pub added : List Record
  pub is : b.engine.history.records ≡ a.engine.history.records ++ added
  pub later : a.site.clock.now ≤ b.site.clock.now
  pub moments : All (IsBetween a.site.clock.now b.site.clock.now) added
  pub budget : length added + b.notes.left ≡ a.notes.left

abbrev pub EachAdds : Type 0
EachAdds = (a b : World) → Steps a b → Adds a b

-- What was given stays: the run, its playbooks and bindings, and the answers of operators.
pub record SameGiven (a b : World) : Type 0 where
  pub run : b.engine.history.seen.run ≡ a.engine.history.seen.run
  pub given : b.engine.history.seen.given ≡ a.engine.history.seen.given
  pub answers : b.notes.answers ≡ a.notes.answers

abbrev pub EachSameGiven : Type 0
EachSameGiven = (a b : World) → Steps a b → SameGiven a b

-- Each appended record came by one step, which tells all that was known then.
pub record CameByStep (a b : World) (front : List Record) (r : Record) : Type 0 where
  pub old : World
  pub new : World
  pub before : Steps a old
  pub step : Step old new
  pub after : Steps new b
  pub was : old.engine.history.records ≡ a.engine.history.records ++ front
  pub has : new.engine.history.records ≡ old.engine.history.records ++ r ∷ []

abbrev pub EachCame : Type 0
EachCame = (a b : World) → Steps a b → (front back : List Record) (r : Record)
    → b.engine.history.records ≡ (a.engine.history.records ++ front) ++ r ∷ back → CameByStep a b front r

-- ---- the clock

-- what came next at a world in between was this moment, within the limit
pub record CameNext (a b : World) (moment : ℕ) : Type 0 where
  pub w : World
  pub before : Steps a w
  pub after : Steps w b
  pub next : ComesNext w moment
  pub in_time : moment ≤ last_moment

-- The greatest moment that the clock was asked for: what it was; from an opening on, the moment of the last record at that time;
-- or what came next at a world in between.
abbrev pub AsksOnly : World → World → Type 0
AsksOnly a b =
    (b.site.clock.furthest ≤ a.site.clock.furthest)
    ⊎ (((a.phase ≡ opened) × (b.site.clock.furthest ≡ a.engine.history.seen.moment)) ⊎ CameNext a b b.site.clock.furthest)

abbrev pub EachAsksOnly : Type 0
EachAsksOnly = (a b : World) → Steps a b → AsksOnly a b

-- ---- lines

abbrev pub one_if : Bool → ℕ
one_if true = 1
one_if false = 0

-- how many lines are owed, or were not said
abbrev pub owed_lines : Phase → ℕ
owed_lines phase = one_if (owes_line phase)

-- The lines said are those of the appended records, in order. Where a line is owed or was not said, it is that of the last one.
pub record Speaks (a b : World) : Type 0 where
  pub said : List (ℕ × List ℕ)
  pub says : GainsAll a.site.link.said said b.site.link.said
  pub many : length a.engine.history.records + length said + owed_lines b.phase ≡ length b.engine.history.records
  pub lines : (k : ℕ) (e : ℕ × List ℕ) → slice_get said k ≡ Some e
      → IsLineAt b.engine.history (length a.engine.history.records + k) e.1

abbrev pub EachSpeaks : Type 0
EachSpeaks = (a b : World) → owes_line a.phase ≡ false → Steps a b → Speaks a b

-- ---- device calls and bytes

-- nothing is left after a refusal
abbrev pub if_going : Phase → ℕ → ℕ
if_going (refused cause lacks) n = 0
if_going other n = n

-- what a refused call may have taken beside a header: four calls for an entry, and one for a line
abbrev pub slack : Phase → ℕ
slack (refused cause lacks) = 5
slack other = 0

abbrev pub total : {T : Type 0} → (T → ℕ) → List T → ℕ
total f [] = 0
total f (x ∷ xs) = f x + total f xs

-- the device calls that headers may still take, of the journal and of the filters' files
abbrev pub headers : World → ℕ
headers w = header_calls w.engine.history.prepared + total (λ (v : ActuatorView). header_calls v.prepared) w.filters

-- Device calls: of the disk four for each record and act and two for each header, of `say` one for each line; after a refusal
-- five more at most. Those of the disk alone are bounded without the lines.
pub record Costs (a b : World) : Type 0 where
  pub calls : device_calls b.site + if_going b.phase (headers b) + owed_lines b.phase + 5 * length a.engine.history.records
      + 4 * length a.notes.acted
      ≤ device_calls a.site + if_going a.phase (headers a) + owed_lines a.phase + 5 * length b.engine.history.records
      + 4 * length b.notes.acted + slack b.phase
  pub disk : b.site.disk.calls + if_going b.phase (headers b) + 4 * length a.engine.history.records + 4 * length a.notes.acted
      ≤ a.site.disk.calls + if_going a.phase (headers a) + 4 * length b.engine.history.records + 4 * length b.notes.acted
      + slack b.phase

abbrev pub EachCosts : Type 0
EachCosts = (a b : World) → Steps a b → Costs a b

-- ---- parcels that changed nothing

-- never more than the most
abbrev pub IgnoresFew : Type 0
IgnoresFew = (a b : World) → a.notes.ignored ≤ most_ignored → Steps a b → b.notes.ignored ≤ most_ignored
