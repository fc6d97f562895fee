-- Promise: An issue that expires was put in the same session, or a mishap was counted.
use Rattle.std.specs.Prelude.{◌≡◌, ◌⊎◌, ℕ, ◌+◌, ◌≤◌, List, ◌∷◌, ◌++◌, length, Some}
use Rattle.cacao_site.specs.Counts.{last_count}
use Rattle.cacao_site.specs.LinkCalls.{GainsAll}
use Rattle.cacao_site.specs.View.{SiteView}
use Rattle.cacao_site.specs.declared.parcel.Parcel.{Parcel}
use Rattle.run_records.specs.declared.record.Record.{Record}
use Rattle.run_records.specs.declared.record.Record.TheVariants as entry
use Rattle.flow_core_rules.specs.Givens.{Given}
use Rattle.flow_engine_answers.specs.declared.answers.OperatorAnswer.{OperatorAnswer}
use Rattle.flow_world_steps.specs.Link.{commands_of}
use Rattle.flow_world_steps.specs.Sides.{times}
use Rattle.flow_world_steps.specs.Worlds.{World}
use Rattle.flow_world.specs.Sessions.{Went}

-- the session appended an Expire of this issue
pub record HasExpired (a b : World) (issue : ℕ) : Type 0 where
  pub moment : ℕ
  pub front : List Record
  pub back : List Record
  pub is : b.engine.history.records ≡ (a.engine.history.records ++ front) ++ entry.Expire issue moment ∷ back

-- Of the issues that expired in the session, all but as many as the count of mishaps rose by have their command among the link's
-- puts of this session (any, where that count stands at its last value); also one whose Expire may stand behind the others, since
-- the disk failed while it was appended.
pub record ExpiresArePut (run : ℕ) (a b : World) (old new : SiteView) : Type 0 where
  pub put : List (ℕ × Parcel)
  pub puts : GainsAll old.link.puts put new.link.puts
  pub lost : List ℕ
  pub few : (old.counts.mishaps + length lost ≤ new.counts.mishaps) ⊎ (last_count ≤ new.counts.mishaps)
  pub each : (issue : ℕ) → HasExpired a b issue → 1 ≤ commands_of run issue put + times issue lost
  pub offered : (issue moment : ℕ) → b.notes.unsure ≡ Some (entry.Expire issue moment)
      → 1 ≤ commands_of run issue put + times issue lost

-- so it is of each session, whether it closed or refused
abbrev pub EachExpiryWasPut : Type 0
EachExpiryWasPut =
    (given : Given) (run most : ℕ) (answers : List OperatorAnswer) (old new : SiteView)
    (went : Went given run most answers old new)
    → ExpiresArePut run went.start went.to old new
