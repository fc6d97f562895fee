-- Promise: What becomes of the parcels that a session takes, told of beats, images of files, and the list of those taken.
use Rattle.std.specs.Prelude.{◌≡◌, ℕ, ◌-◌, true, List, ◌++◌, length, take, Contains, Some}
use Rattle.cacao_site.specs.DiskCalls.{IsLeft}
use Rattle.cacao_site.specs.Sound.{IsSound}
use Rattle.cacao_site.specs.View.{SiteView}
use Rattle.cacao_site.specs.declared.parcel.Parcel.{Parcel}
use Rattle.oc2_msg.specs.declared.answers.Answer.{Answer}
use Rattle.run_records.specs.declared.act.Act.{Act}
use Rattle.run_records.specs.declared.record.Record.{Record}
use Rattle.run_records.specs.declared.record.Record.TheVariants as entry
use Rattle.flow_core_rules.specs.Givens.{Given}
use Rattle.flow_engine.specs.EngineCalls.{IsFinal}
use Rattle.flow_engine_answers.specs.declared.answers.OperatorAnswer.{OperatorAnswer}
use Rattle.flow_laws.specs.Held.{HasOpenSend}
use Rattle.flow_laws.specs.Images.{EachFilter, EachJournal, IsActs, IsAgent, IsRecords}
use Rattle.slpf_actuator.specs.ActLists.{HasActed}
use Rattle.flow_world_steps.specs.Handled.{IsCommand, IsTakenAct, IsTakenReply}
use Rattle.flow_world.specs.Sessions.{HasClosed, HasRefused, IsStart}
use Rattle.flow_world.specs.Close.{Close}
use Rattle.flow_world.specs.WorldError.{WorldError}

-- ---- the parcels

-- the parcels that a session took, in order, each with the beat of its take, where the site tells them
pub record Took (old new : SiteView) (taken : List (ℕ × Parcel)) : Type 0 where
  pub before : List (ℕ × Parcel)
  pub was : old.link.taken ≡ Some before
  pub now : new.link.taken ≡ Some (before ++ taken)

-- all but the last one
abbrev pub but_the_last : List (ℕ × Parcel) → List (ℕ × Parcel)
but_the_last taken = take (length taken - 1) taken

-- ---- what becomes of them

-- each image of the file of the command's agent has an act of its run and issue
abbrev pub IsActedOn : SiteView → Parcel → Type 0
IsActedOn site parcel =
    EachFilter site site.disk.beat parcel.agent (λ acts. (act : Act) × HasActed acts parcel.run parcel.issue act)

-- At this beat the reply's issue waited for it: by the records of every image of file 0, which are of its run, the Send of the
-- issue to its agent stands there, and no record that ends the issue.
abbrev pub WasAwaited : SiteView → ℕ → Parcel → Type 0
WasAwaited site beat parcel =
    EachJournal site beat (λ records. (command : List ℕ) × HasOpenSend records (record parcel { bytes = command }))

-- each image of file 0 has the Reply of its issue, with what it was read as
abbrev pub IsRecorded : SiteView → Parcel → Answer → Type 0
IsRecorded site parcel read = EachJournal site site.disk.beat (λ records.
    (moment : ℕ) × Contains records (entry.Reply parcel.issue moment read.status read.rule read.text))

-- Each command for an agent 1 to 16, with at most 1,048,576 bytes, has its act on return. Each reply whose issue waited for it
-- at the beat at which it was taken, and whose bytes read as an answer with another status than 102, has its Reply there. (What
-- a file reads as is one of its images.)
pub record AreHandled (site : SiteView) (parcels : List (ℕ × Parcel)) : Type 0 where
  pub commands : (e : ℕ × Parcel) → Contains parcels e → IsCommand e.1 → IsActedOn site e.1
  pub replies : (e : ℕ × Parcel) (read : Answer) → Contains parcels e → e.1.back ≡ true → WasAwaited site e.0 e.1
      → IsFinal e.1.bytes read → IsRecorded site e.1 read

-- ---- what was appended

-- the acts are those of an image that the agent's file had at the start, and then others, each on a command that was taken for
-- the agent: of its run and issue, with its bytes
pub record HasTakenActs (taken : List (ℕ × Parcel)) (agent : ℕ) (old : SiteView) (acts : List Act) : Type 0 where
  pub image : List ℕ
  pub left : IsLeft old.disk agent old.disk.beat image
  pub before : List Act
  pub had : IsActs image before
  pub added : List Act
  pub are : acts ≡ before ++ added
  pub of_commands : (act : Act) → Contains added act → IsTakenAct taken (agent, act)

-- the records are those of an image that file 0 had at the start, and then others, of which each Reply is of a reply that was
-- taken
pub record HasTakenReplies (taken : List (ℕ × Parcel)) (run : ℕ) (old : SiteView) (records : List Record) : Type 0 where
  pub image : List ℕ
  pub left : IsLeft old.disk 0 old.disk.beat image
  pub before : List Record
  pub had : IsRecords image before
  pub added : List Record
  pub are : records ≡ before ++ added
  pub of_replies : (r : Record) → Contains added r → IsTakenReply run taken r

-- so it is of each image on return: no other act was appended, of whatever run, and no other Reply
pub record IsOfTaken (taken : List (ℕ × Parcel)) (run : ℕ) (old new : SiteView) : Type 0 where
  pub acts : (agent : ℕ) → IsAgent agent → EachFilter new new.disk.beat agent (HasTakenActs taken agent old)
  pub replies : EachJournal new new.disk.beat (HasTakenReplies taken run old)

-- ---- the law

-- from a start where all agrees, of a session that ends so, and took these parcels
abbrev pub FromAStart : (List (ℕ × Parcel) → List (ℕ × Parcel)) → (Given → ℕ → ℕ → List OperatorAnswer → SiteView → SiteView → Type 0)
    → Type 0
FromAStart handled Ends =
    (given : Given) (run most : ℕ) (answers : List OperatorAnswer) (old new : SiteView) (taken : List (ℕ × Parcel)) → IsSound old
    → IsSound new → IsStart old run → Ends given run most answers old new → Took old new taken
    → AreHandled new (handled taken) × IsOfTaken taken run old new

-- Where it closed, all of them are handled; where it refused, all but the last.
abbrev pub EachCloseHandles : Type 0
EachCloseHandles = (close : Close) → FromAStart (λ taken. taken) (HasClosed close)

abbrev pub EachRefusalHandles : Type 0
EachRefusalHandles = (error : WorldError) → FromAStart but_the_last (HasRefused error)
