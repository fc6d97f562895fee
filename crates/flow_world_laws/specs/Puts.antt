-- Promise: What a session puts, and how often, told of beats, images of files, and the lists of parcels put and taken.
use Rattle.std.specs.Prelude.{◌≡◌, ℕ, ◌≤◌, false, IsSome, List, Contains}
use Rattle.cacao_site.specs.LinkCalls.{GainsAll}
use Rattle.cacao_site.specs.Sound.{IsSound}
use Rattle.cacao_site.specs.View.{SiteView}
use Rattle.cacao_site.specs.declared.parcel.Parcel.{Parcel}
use Rattle.flow_core_rules.specs.Givens.{Given}
use Rattle.flow_engine.specs.OpenIssues.{most_puts}
use Rattle.flow_engine_answers.specs.declared.answers.OperatorAnswer.{OperatorAnswer}
use Rattle.flow_laws.specs.Held.{HasOpenSend, IsHeld}
use Rattle.flow_laws.specs.Images.{EachJournal, puts_of}
use Rattle.flow_world_steps.specs.Link.{commands_in, commands_of, replies_in}
use Rattle.flow_world_steps.specs.Worlds.{World}
use Rattle.flow_world_parts.specs.declared.close.Close.{Close}
use Rattle.flow_world_parts.specs.declared.error.WorldError.{WorldError}
use Rattle.flow_world.specs.Sessions.{HasClosed, HasRefused, IsStart, KeepsAgreement}
use Rattle.flow_world_laws.specs.Returns.{IsSession}

-- the parcel is the command of an issue of this run: at this beat, in each image of the journal, the Send of the issue stands to
-- its agent and with its bytes, and no record that ends the issue
pub record IsCommandOf (run : ℕ) (site : SiteView) (beat : ℕ) (parcel : Parcel) : Type 0 where
  pub of_run : parcel.run ≡ run
  pub sent : EachJournal site beat (λ records. HasOpenSend records parcel)

-- Each parcel that was put is a command of the run, or a reply. At most nine are the command of one issue; and the replies are at
-- most as many as the commands that were taken.
pub record PutsFew (run : ℕ) (old new : SiteView) : Type 0 where
  pub put : List (ℕ × Parcel)
  pub puts : GainsAll old.link.puts put new.link.puts
  pub taken : List (ℕ × Parcel)
  pub takes : GainsAll old.link.taken taken new.link.taken
  pub commands : (e : ℕ × Parcel) → Contains put e → e.1.back ≡ false → IsCommandOf run new e.0 e.1
  pub few : (issue : ℕ) → commands_of run issue put ≤ most_puts
  pub replies : replies_in put ≤ commands_in taken

-- a session that ends so puts few, from a start where all agreed
abbrev pub FewFromAStart : (Given → ℕ → ℕ → List OperatorAnswer → SiteView → SiteView → Type 0) → Type 0
FewFromAStart Ends =
    (given : Given) (run most : ℕ) (answers : List OperatorAnswer) (old new : SiteView) → IsSound new → IsStart old run
    → KeepsAgreement old new → Ends given run most answers old new → PutsFew run old new

-- So it is of each session, whether it closed or refused.
abbrev pub EachClosePutsFew : Type 0
EachClosePutsFew = (close : Close) → FewFromAStart (HasClosed close)

abbrev pub EachRefusalPutsFew : Type 0
EachRefusalPutsFew = (error : WorldError) → FewFromAStart (HasRefused error)

-- So it is wherever the filters stand, where puts are told and each command was put behind its Send.
abbrev pub EachSessionPutsFew : Type 0
EachSessionPutsFew =
    (given : Given) (run most : ℕ) (answers : List OperatorAnswer) (a b : World) (old new : SiteView)
    → IsSession given run most answers a b old new → IsSound new → IsSome old.link.puts → IsHeld new (puts_of old) new.disk.beat
    → PutsFew run old new
