-- Promise: What a session puts, and how often.
use Rattle.std.specs.Prelude.{◌≡◌, ◌⊎◌, ℕ, ◌+◌, ◌≤◌, nat_eq, true, false, List, [], ◌∷◌, All, length, if◌then◌else◌, slice_get, Some}
use Rattle.cacao_site.specs.Counts.{last_count}
use Rattle.cacao_site.specs.LinkCalls.{GainsAll}
use Rattle.cacao_site.specs.declared.parcel.Parcel.{Parcel}
use Rattle.flow_core_rules.specs.Changes.{is_waiting}
use Rattle.flow_core_rules.specs.declared.issues.Issue.{Issue}
use Rattle.flow_engine.specs.OpenIssues.{count_of, most_puts, puts_of}
use Rattle.flow_engine.specs.declared.puts.Puts.{Puts}
use Rattle.flow_world_steps.specs.Sides.{times}
use Rattle.flow_world_steps.specs.Steps.{Steps}
use Rattle.flow_world_steps.specs.Worlds.{World, Phase, holds}

-- 1 for a command of this run and issue
abbrev pub one_command : ℕ → ℕ → Parcel → ℕ
one_command run issue parcel =
    if parcel.back then 0 else if nat_eq parcel.run run then (if nat_eq parcel.issue issue then 1 else 0) else 0

-- how many commands of a run and issue there are
abbrev pub commands_of : ℕ → ℕ → List (ℕ × Parcel) → ℕ
commands_of run issue [] = 0
commands_of run issue (e ∷ entries) = one_command run issue e.1 + commands_of run issue entries

-- how many replies, and how many commands
abbrev pub replies_in : List (ℕ × Parcel) → ℕ
replies_in [] = 0
replies_in (e ∷ entries) = (if e.1.back then 1 else 0) + replies_in entries

abbrev pub commands_in : List (ℕ × Parcel) → ℕ
commands_in [] = 0
commands_in (e ∷ entries) = (if e.1.back then 0 else 1) + commands_in entries

-- a command that is in hand
abbrev pub in_hand : Phase → ℕ
in_hand (holds beat parcel) = if parcel.back then 0 else 1
in_hand other = 0

-- a command is of this run
abbrev pub IsOwn : ℕ → ℕ × Parcel → Type 0
IsOwn run e = e.1.back ≡ false → e.1.run ≡ run

-- Each command that joined the link's puts is of the session's run, and of an issue that the session notes as put, as often.
pub record PutsNoted (a b : World) : Type 0 where
  pub put : List (ℕ × Parcel)
  pub puts : GainsAll a.site.link.puts put b.site.link.puts
  pub own : All (IsOwn a.engine.history.seen.run) put
  pub noted : (issue : ℕ) → commands_of a.engine.history.seen.run issue put + times issue a.notes.put ≤ times issue b.notes.put

abbrev pub EachPutsFew : Type 0
EachPutsFew = (a b : World) → Steps a b → PutsNoted a b

-- The replies put are at most as many as the commands taken.
pub record RepliesFew (a b : World) : Type 0 where
  pub put : List (ℕ × Parcel)
  pub puts : GainsAll a.site.link.puts put b.site.link.puts
  pub taken : List (ℕ × Parcel)
  pub takes : GainsAll a.site.link.taken taken b.site.link.taken
  pub few : replies_in put + in_hand b.phase ≤ commands_in taken + in_hand a.phase

abbrev pub EachRepliesFew : Type 0
EachRepliesFew = (a b : World) → Steps a b → RepliesFew a b

-- No issue was put more than nine times. One that waits was put just as often as the engine counts, none less often than it
-- counts, and no issue was put before it was there.
pub record PutsAreCounted (w : World) : Type 0 where
  pub few : (issue : ℕ) → times issue w.notes.put ≤ most_puts
  pub counted : (issue : ℕ) (it : Issue) → slice_get w.engine.history.seen.lists.issues issue ≡ Some it
      → is_waiting it.phase ≡ true → times issue w.notes.put ≤ count_of w.engine.puts issue
  pub noted : (issue : ℕ) → count_of w.engine.puts issue ≤ times issue w.notes.put
  pub later : (issue : ℕ) → length w.engine.history.seen.lists.issues ≤ issue → times issue w.notes.put ≡ 0

abbrev pub EachCountsFew : Type 0
EachCountsFew = (a b : World) → PutsAreCounted a → Steps a b → PutsAreCounted b

-- no put is later than now
abbrev pub PutsInTime : World → Type 0
PutsInTime w = (issue : ℕ) (puts : Puts) → puts_of w.engine.puts issue ≡ Some puts → puts.last ≤ w.site.clock.now

abbrev pub EachPutsInTime : Type 0
EachPutsInTime = (a b : World) → PutsInTime a → Steps a b → PutsInTime b

-- Of the issues noted as put, all but as many as the count of mishaps rose by are among the link's puts (any, where that count
-- stands at its last value).
pub record PutsOrLost (a b : World) : Type 0 where
  pub put : List (ℕ × Parcel)
  pub puts : GainsAll a.site.link.puts put b.site.link.puts
  pub lost : List ℕ
  pub later : a.site.counts.mishaps ≤ b.site.counts.mishaps
  pub few : (a.site.counts.mishaps + length lost ≤ b.site.counts.mishaps) ⊎ (last_count ≤ b.site.counts.mishaps)
  pub each : (issue : ℕ)
      → times issue b.notes.put ≤ times issue a.notes.put + commands_of a.engine.history.seen.run issue put + times issue lost

abbrev pub EachPutsOrLost : Type 0
EachPutsOrLost = (a b : World) → Steps a b → PutsOrLost a b
