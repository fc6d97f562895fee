-- Promise: What becomes of the replies that a session takes, wherever the filters stand that sent them.
use Rattle.std.specs.Prelude.{ℕ, IsTrue, List, Contains}
use Rattle.cacao_site.specs.Sound.{IsSound}
use Rattle.cacao_site.specs.View.{SiteView}
use Rattle.cacao_site.specs.declared.parcel.Parcel.{Parcel}
use Rattle.oc2_msg.specs.declared.answers.Answer.{Answer}
use Rattle.flow_core_rules.specs.Givens.{Given}
use Rattle.flow_engine.specs.EngineCalls.{IsFinal}
use Rattle.flow_engine_answers.specs.declared.answers.OperatorAnswer.{OperatorAnswer}
use Rattle.flow_world_steps.specs.Handled.{IsBack}
use Rattle.flow_world_steps.specs.Worlds.{World}
use Rattle.flow_world_parts.specs.Closes.{IsClose}
use Rattle.flow_world_parts.specs.declared.close.Close.{Close}
use Rattle.flow_world_laws.specs.Parcels.{IsRecorded, Took, WasAwaited, but_the_last}
use Rattle.flow_world_laws.specs.Returns.{IsSession}

-- Each reply from an agent 1 to 16, with at most 1,048,576 bytes, whose issue waited for it at the beat at which it was taken, and
-- whose bytes read as an answer with another status than 102, has its Reply on return.
abbrev pub RepliesAreRecorded : SiteView → List (ℕ × Parcel) → Type 0
RepliesAreRecorded site parcels =
    (e : ℕ × Parcel) (read : Answer) → Contains parcels e → IsBack e.1 → WasAwaited site e.0 e.1 → IsFinal e.1.bytes read
    → IsRecorded site e.1 read

-- of a session that took these parcels, on a site that tells its files and which parcels were taken: all but the last
abbrev pub EachSessionRecords : Type 0
EachSessionRecords =
    (given : Given) (run most : ℕ) (answers : List OperatorAnswer) (a b : World) (old new : SiteView) (taken : List (ℕ × Parcel))
    → IsSession given run most answers a b old new → IsSound new → IsTrue new.disk.told → Took old new taken
    → RepliesAreRecorded new (but_the_last taken)

-- and where it closed, all of them
abbrev pub EachCloseRecords : Type 0
EachCloseRecords =
    (close : Close) (given : Given) (run most : ℕ) (answers : List OperatorAnswer) (a b : World) (old new : SiteView)
    (taken : List (ℕ × Parcel))
    → IsSession given run most answers a b old new → IsClose close b → IsSound new → IsTrue new.disk.told → Took old new taken
    → RepliesAreRecorded new taken
