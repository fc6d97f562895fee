-- Scaffold: What a session does in a turn whose take found no parcel: the first of these that applies.
use Rattle.std.specs.Prelude.{◌≡◌, ◌≢◌, ℕ, true, false, None}
use Rattle.flow_core_rules.specs.Moves.{enabled_move}
use Rattle.flow_engine_answers.specs.declared.answers.OperatorAnswer.{OperatorAnswer}
use Rattle.flow_world_steps.specs.Turns.{ComesNext, HasLooked, IsOverdue, IsToBeResent, IsToBeTold, IsUpToDate}
use Rattle.flow_world_steps.specs.Worlds.{World}
use Rattle.flow_world_parts.specs.Closes.{IsAsking}
use Rattle.flow_world_parts.specs.declared.due.Due.{Due}
use Rattle.flow_world_parts.specs.declared.due.Due.TheVariants as next

-- a move is enabled
pub record IsToMove (w : World) : Type 0 where
  pub has_looked : HasLooked w
  pub has_move : enabled_move w.engine.history.seen w.site.clock.now ≢ None

-- an operator told of an issue, and the run is not upgraded yet
pub record IsToUpgrade (w : World) : Type 0 where
  pub issue : ℕ
  pub told : OperatorAnswer
  pub to_be_told : IsToBeTold w issue told
  pub earlier : w.engine.history.seen.lists.is_upgraded ≡ false

-- an operator told of this issue, and the run is upgraded
pub record IsToTell (w : World) (issue : ℕ) : Type 0 where
  pub told : OperatorAnswer
  pub to_be_told : IsToBeTold w issue told
  pub upgraded : w.engine.history.seen.lists.is_upgraded ≡ true

-- no resend is due either, and nothing comes next but an operator's answer for this issue
pub record IsToAsk (w : World) (issue : ℕ) : Type 0 where
  pub up_to_date : IsUpToDate w
  pub asking : IsAsking w issue

-- each exactly where the session stands so (no two hold of one world)
abbrev pub IsDue : Due → World → Type 0
IsDue next.Move w = IsToMove w
IsDue next.Upgrade w = IsToUpgrade w
IsDue (next.Tell issue) w = IsToTell w issue
IsDue (next.Expire issue) w = IsOverdue w issue
IsDue (next.Resend issue) w = IsToBeResent w issue
IsDue (next.Wait moment) w = ComesNext w moment
IsDue (next.Ask issue) w = IsToAsk w issue
