-- Promise: In which order a turn of a session goes: each of these says that all that comes first in a turn did not apply.
use Rattle.std.specs.Prelude.{◌≡◌, ℕ, ◌<◌, ◌≤◌, ◌==◌, min, true, List, find, Option, Some, None, IfSome, slice_get}
use Rattle.std.specs.Option.{option_map_or}
use Rattle.cacao_site.specs.Sound.{IsSound}
use Rattle.flow_core_rules.specs.Changes.{is_waiting, outcome}
use Rattle.flow_core_rules.specs.Moves.{due, enabled_move}
use Rattle.flow_core_rules.specs.declared.issues.Issue.{Issue}
use Rattle.base_dues.specs.Pairs.{IsFirstBy}
use Rattle.flow_engine.specs.OperatorAnswer.{OperatorAnswer}
use Rattle.flow_engine.specs.EngineCalls.{put_deadline}
use Rattle.flow_engine.specs.OpenIssues.{IsNextPut}
use Rattle.flow_world_steps.specs.Sides.{AllPut, IsUp}
use Rattle.flow_world_steps.specs.Worlds.{World, rests, looked}

-- the most parcels of a session that change neither journal
abbrev pub most_ignored : ℕ
most_ignored = 1_000_000

-- A turn begins with a take: the run has begun and has not ended, each issue that waits for a filter was put, a record more may
-- be appended, and not too many parcels changed nothing.
pub record BeginsTurn (w : World) : Type 0 where
  pub phase : w.phase ≡ rests
  pub sound : IsSound w.site
  pub up : IsUp w.engine w.site
  pub put : AllPut w.engine
  pub goes_on : outcome w.engine.history.seen.lists ≡ None
  pub budget : 1 ≤ w.notes.left
  pub calm : w.notes.ignored < most_ignored

-- the take of this turn found no parcel
pub record HasLooked (w : World) : Type 0 where
  pub phase : w.phase ≡ looked
  pub sound : IsSound w.site
  pub up : IsUp w.engine w.site
  pub budget : 1 ≤ w.notes.left

-- and no move is enabled
pub record IsIdle (w : World) : Type 0 where
  pub has_looked : HasLooked w
  pub no_move : enabled_move w.engine.history.seen w.site.clock.now ≡ None

-- the first answer of an operator for an issue
abbrev pub answer_for : List OperatorAnswer → ℕ → Option OperatorAnswer
answer_for answers issue = find (λ told. told.issue == issue) answers

-- an issue that waits, for a filter or an operator, has an answer
pub record HasAnswer (w : World) (issue : ℕ) (told : OperatorAnswer) : Type 0 where
  pub it : Issue
  pub there : slice_get w.engine.history.seen.lists.issues issue ≡ Some it
  pub waits : is_waiting it.phase ≡ true
  pub first : answer_for w.notes.answers issue ≡ Some told

-- no move is enabled, and this is the least issue that waits and has an answer
pub record IsToBeTold (w : World) (issue : ℕ) (told : OperatorAnswer) : Type 0 where
  pub idle : IsIdle w
  pub has : HasAnswer w issue told
  pub least : (lower : ℕ) (other : OperatorAnswer) → lower < issue → HasAnswer w lower other → ⊥

-- no issue that waits has an answer
pub record IsUntold (w : World) : Type 0 where
  pub idle : IsIdle w
  pub none : (issue : ℕ) (told : OperatorAnswer) → HasAnswer w issue told → ⊥

-- this is the least issue that was put and is at or past its deadline
pub record IsOverdue (w : World) (issue : ℕ) : Type 0 where
  pub untold : IsUntold w
  pub first : IsFirstBy w.site.clock.now (put_deadline w.engine) (Some issue)

-- none is at or past its deadline
pub record IsOnTime (w : World) : Type 0 where
  pub untold : IsUntold w
  pub none : IsFirstBy w.site.clock.now (put_deadline w.engine) None

-- the next resend is of this issue, and its moment has come
pub record IsToBeResent (w : World) (issue : ℕ) : Type 0 where
  pub on_time : IsOnTime w
  pub moment : ℕ
  pub next : IsNextPut w.engine.puts (Some (moment, issue))
  pub come : moment ≤ w.site.clock.now

-- the moment of no resend has come
pub record IsUpToDate (w : World) : Type 0 where
  pub on_time : IsOnTime w
  pub resend : Option (ℕ × ℕ)  -- the moment and the issue of the next one
  pub next : IsNextPut w.engine.puts resend
  pub later : IfSome resend (λ next. w.site.clock.now < next.0)

-- This moment comes next: the least of what is due and the next resend.
pub record ComesNext (w : World) (moment : ℕ) : Type 0 where
  pub up_to_date : IsUpToDate w
  pub at : ℕ
  pub due_is : due w.engine.history.seen ≡ Some at
  pub is : moment ≡ option_map_or (λ next. min at next.0) up_to_date.resend at
