-- Promise: A call of the engine that appends a record, and what becomes of it.
use Rattle.std.specs.Prelude.{◌≡◌, ◌-◌, false, Some}
use Rattle.run_records.specs.declared.record.Record.{Record}
use Rattle.flow_engine.specs.LimitKind.{LimitKind}
use Rattle.flow_engine.specs.EngineError.TheVariants as error
use Rattle.flow_engine.specs.EngineCalls.{Appends, Refused}
use Rattle.flow_world_steps.specs.Sides.{IsEngine}
use Rattle.flow_world_steps.specs.Worlds.{World, owes, refused, disk_failed, past}

-- the record was appended, and its line is owed
pub record HasAppended (IsNext : Record → Type 0) (old new : World) : Type 0 where
  pub appends : Appends old.engine new.engine IsNext old.site new.site
  pub engine : IsEngine new.engine new.site
  pub filters : new.filters ≡ old.filters
  pub notes : new.notes ≡ record old.notes { left = old.notes.left - 1 }
  pub phase : new.phase ≡ owes

-- the disk failed, and the record may stand in the journal
pub record MayHaveAppended (IsNext : Record → Type 0) (old new : World) : Type 0 where
  pub refuses : Refused old.engine new.engine IsNext error.Disk old.site new.site
  pub engine : IsEngine new.engine new.site
  pub filters : new.filters ≡ old.filters
  pub notes : new.notes ≡ record old.notes { unsure = Some refuses.0.0.comes.next }
  pub phase : new.phase ≡ refused disk_failed false

-- the record would pass a limit, and nothing changed
pub record HasPassedLimit (IsNext : Record → Type 0) (what : LimitKind) (old new : World) : Type 0 where
  pub refuses : Refused old.engine new.engine IsNext (error.Limit what) old.site new.site
  pub filters : new.filters ≡ old.filters
  pub notes : new.notes ≡ old.notes
  pub phase : new.phase ≡ refused (past what) false

-- one of these (want of memory is a step of its own)
pub data Tries (IsNext : Record → Type 0) (old new : World) : Type 0 where
  done : HasAppended IsNext old new → Tries IsNext old new
  failed : MayHaveAppended IsNext old new → Tries IsNext old new
  limited : (what : LimitKind) → HasPassedLimit IsNext what old new → Tries IsNext old new
