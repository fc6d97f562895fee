-- Promise: What a session uses up, so that it ends.
use Rattle.std.specs.Prelude.{ℕ, suc, ◌+◌, ◌*◌, ◌<◌, ◌≤◌, List, length}
use Rattle.run_records.specs.Ranges.{last_moment}
use Rattle.flow_engine.specs.OperatorAnswer.{OperatorAnswer}
use Rattle.flow_engine.specs.OpenIssues.{OpenIssues}
use Rattle.flow_engine.specs.declared.puts.Puts.{Puts}
use Rattle.flow_core_rules.specs.Givens.{Given}
use Rattle.slpf_actuator.specs.ActuatorView.{ActuatorView}
use Rattle.flow_world_steps.specs.Stands.{AllPutWhileLooked, InTime}
use Rattle.flow_world_steps.specs.Steps.{Step, Steps}
use Rattle.flow_world_steps.specs.Steps.Steps.{nothing, and_then}
use Rattle.flow_world_steps.specs.Sums.{total}
use Rattle.flow_world_steps.specs.Turns.{most_ignored}
use Rattle.flow_world_steps.specs.Whole.{IsOpened}
use Rattle.flow_world_steps.specs.Worlds.{World, Phase, IsGoing, rests, looked, holds}

-- how often the issues that were put and wait were put, all together
abbrev pub all_counts : OpenIssues → ℕ
all_counts puts = total (λ (put : ℕ × Puts). (put.1).count) puts

-- how many acts the filters have
abbrev pub all_acts : List ActuatorView → ℕ
all_acts filters = total (λ (v : ActuatorView). length v.acts) filters

-- Records, puts, acts, parcels that changed nothing, and time. A record may end an issue, which was put nine times at most, so
-- it weighs ten.
abbrev pub spent : World → ℕ
spent w =
    10 * length w.engine.history.records + all_counts w.engine.puts + all_acts w.filters + w.notes.ignored + w.site.clock.now

-- It is bounded: by the length of the files, and of each issue nine puts at most are counted.
abbrev pub most_records : ℕ
most_records = 67_108_864

abbrev pub most_acts : ℕ
most_acts = 4_294_967_295

abbrev pub most_spent : ℕ
most_spent = 19 * most_records + 16 * most_acts + most_ignored + last_moment

-- how far a turn is
abbrev pub place : Phase → ℕ
place rests = 1
place looked = 2
place (holds beat parcel) = 2
place other = 0

abbrev pub progress : World → ℕ
progress w = 4 * spent w + place w.phase

abbrev pub most_progress : ℕ
most_progress = 4 * most_spent + 2

-- Each step of a session that goes on makes progress.
abbrev pub StepSpends : Type 0
StepSpends = (old new : World) → InTime old → AllPutWhileLooked old → Step old new → IsGoing new.phase
    → progress old < progress new

-- how many steps there are
abbrev pub many : {a b : World} → Steps a b → ℕ
many nothing = 0
many (and_then steps step) = suc (many steps)

-- So there are no more steps than the progress that they made.
abbrev pub EachSpends : Type 0
EachSpends = (a b : World) → InTime a → AllPutWhileLooked a → (steps : Steps a b) → IsGoing b.phase
    → many steps + progress a ≤ progress b

-- And each session ends: there are not more steps than this, however it goes.
abbrev pub EachEnds : Type 0
EachEnds =
    (a b : World) (given : Given) (run most : ℕ) (answers : List OperatorAnswer) → IsOpened a given run most answers
    → (steps : Steps a b) → many steps ≤ suc most_progress
