-- Promise: All that a session adds up to, from the opening of its files on.
use Rattle.std.specs.Prelude.{◌≡◌, ℕ, ◌+◌, ◌*◌, ◌≤◌, List, [], length, All, None, IsSome}
use Rattle.cacao_site.specs.Counts.{DidNotRise}
use Rattle.cacao_site.specs.View.{device_calls}
use Rattle.flow_core_rules.specs.Givens.{Given}
use Rattle.flow_engine.specs.OperatorAnswer.{OperatorAnswer}
use Rattle.flow_world_steps.specs.Complete.{IsComplete}
use Rattle.flow_world_steps.specs.Grown.{FiltersGrow}
use Rattle.flow_world_steps.specs.Handled.{Handles, HasItsAct, IsCommand}
use Rattle.flow_world_steps.specs.Link.{PutsAreCounted, PutsNoted, PutsOrLost, RepliesFew}
use Rattle.flow_world_steps.specs.Ready.{FiltersStand, JournalStands}
use Rattle.flow_world_steps.specs.Sides.{FiltersReady, IsWhole}
use Rattle.flow_world_steps.specs.Steps.{Steps}
use Rattle.flow_world_steps.specs.Sums.{Adds, AsksOnly, SameGiven, Speaks, owed_lines, total}
use Rattle.flow_world_steps.specs.Turns.{most_ignored}
use Rattle.flow_world_steps.specs.Unbroken.{IsUnbroken}
use Rattle.flow_world_steps.specs.UnderWay.{IsUnderWay}
use Rattle.flow_world_steps.specs.Worlds.{HasAllFilters, Notes, World, opened}
use Rattle.flow_world_steps.specs.Written.{noted_bytes, record_bytes}

-- a session that may append so many records, with these answers of operators, and has done nothing
abbrev pub blank_notes : ℕ → List OperatorAnswer → Notes
blank_notes most answers =
    record { answers = answers; left = most; unsure = None; acted = []; unsure_act = None; put = []; ignored = 0; asked = None }

-- a world where a session begins: the journal of this run, with what was given, and the files of the filters that stand here are
-- open, and nothing was done
pub record IsOpened (w : World) (given : Given) (run most : ℕ) (answers : List OperatorAnswer) : Type 0 where
  pub phase : w.phase ≡ opened
  pub whole : IsWhole w.engine w.site
  pub given_is : w.engine.history.seen.given ≡ given
  pub of_run : w.engine.history.seen.run ≡ run
  pub no_puts : w.engine.puts ≡ []
  pub filters : FiltersReady w.filters w.site
  pub notes : w.notes ≡ blank_notes most answers

-- From there on: records and lines, what is asked of the clock, what is put, what becomes of parcels, and what the files hold.
-- Where each agent's filter stands here, each command has its act, and it is known what is under way. At most as many records
-- are appended as may be.
pub record AddsUp (a b : World) (most : ℕ) : Type 0 where
  pub adds : Adds a b
  pub budget : length adds.added + b.notes.left ≡ most
  pub given : SameGiven a b
  pub speaks : Speaks a b
  pub asks_only : AsksOnly a b
  pub handles : Handles a b
  pub noted : PutsNoted a b
  pub counted : PutsAreCounted b
  pub puts_or_lost : PutsOrLost a b
  pub replies_few : RepliesFew a b
  pub ignored : b.notes.ignored ≤ most_ignored
  pub journal : JournalStands b
  pub filters : FiltersStand b
  pub grow : FiltersGrow a b
  pub unbroken : IsUnbroken a b
  pub acts : HasAllFilters a → All (λ e. IsCommand e.1 → HasItsAct b e.1) handles.handled
  pub waits : HasAllFilters a → DidNotRise a.site.counts.mishaps b.site.counts.mishaps → IsUnderWay b
  pub complete : HasAllFilters a → IsSome a.site.link.pending → DidNotRise a.site.counts.mishaps b.site.counts.mishaps
      → IsComplete a b
  pub calls : device_calls b.site + owed_lines b.phase
      ≤ device_calls a.site + 2 * (1 + length a.filters) + 5 * length adds.added + 4 * length b.notes.acted + 5
  pub disk_calls : b.site.disk.calls
      ≤ a.site.disk.calls + 2 * (1 + length a.filters) + 4 * length adds.added + 4 * length b.notes.acted + 5
  pub written : b.site.disk.written
      ≤ a.site.disk.written + 9 * (1 + length a.filters) + total record_bytes adds.added + noted_bytes b.notes

abbrev pub EachAddsUp : Type 0
EachAddsUp =
    (a b : World) (given : Given) (run most : ℕ) (answers : List OperatorAnswer) → IsOpened a given run most answers → Steps a b
    → AddsUp a b most
