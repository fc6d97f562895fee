-- Promise: How each record that a session appended came: by one call, at the clock's moment, and why.
use Rattle.std.specs.Prelude.{◌≡◌, ◌⊎◌, ℕ, ◌<◌, ◌≤◌, true, false, List, [], ◌∷◌, ◌++◌, Some, None, All, ⊤}
use Rattle.base_dues.specs.Pairs.{is_by}
use Rattle.cacao_site.specs.View.{SiteView}
use Rattle.cacao_site.specs.declared.parcel.Parcel.{Parcel}
use Rattle.run_records.specs.declared.record.Record.{Record}
use Rattle.run_records.specs.declared.record.Record.TheVariants as entry
use Rattle.flow_core_rules.specs.Changes.{moment_of}
use Rattle.flow_core_rules.specs.Givens.{Given}
use Rattle.flow_core_rules.specs.Moves.{deadline_of, enabled_move}
use Rattle.flow_core_rules.specs.Runs.{begin_of}
use Rattle.flow_core_rules.specs.declared.issues.Issue.{Issue}
use Rattle.flow_engine.specs.EngineCalls.{IsMove, IsReply, IsWaiting, put_deadline}
use Rattle.flow_engine.specs.OpenIssues.{count_of}
use Rattle.flow_engine_answers.specs.declared.answers.OperatorAnswer.{OperatorAnswer}
use Rattle.flow_world_steps.specs.Ready.{FoundNone}
use Rattle.flow_world_steps.specs.Steps.{Step, Steps}
use Rattle.flow_world_steps.specs.Sums.{IsBetween}
use Rattle.flow_world_steps.specs.Turns.{HasAnswer, HasLooked, IsToBeTold}
use Rattle.flow_world_steps.specs.Worlds.{World, holds, rests}
use Rattle.flow_world.specs.Sessions.{Went}

-- ---- why a record came, read off the world before

-- The journal was empty, and it is the Begin of the asked run, with the texts that were given, at this moment.
pub record WasToBegin (given : Given) (run : ℕ) (r : Record) (w : World) : Type 0 where
  pub phase : w.phase ≡ rests
  pub empty : w.engine.history.records ≡ []
  pub is : r ≡ begin_of given run w.site.clock.now

-- The take of this turn had found no parcel, and it is the record of the enabled move at this moment: of the least-numbered task
-- that has one.
pub record WasEnabled (r : Record) (w : World) : Type 0 where
  pub has_looked : HasLooked w
  pub found : FoundNone w.site w.site.clock.now
  pub move : IsMove w.engine.history w.site.clock.now r

-- An operator told of an issue that waits, the least of these; no move was enabled, and the take of this turn had found no
-- parcel.
pub record WasTold (issue : ℕ) (told : OperatorAnswer) (w : World) : Type 0 where
  pub found : FoundNone w.site w.site.clock.now
  pub to_be_told : IsToBeTold w issue told

-- that is why the run was upgraded,
pub record WasToUpgrade (r : Record) (w : World) : Type 0 where
  pub issue : ℕ
  pub told : OperatorAnswer
  pub was_told : WasTold issue told w
  pub earlier : w.engine.history.seen.lists.is_upgraded ≡ false
  pub is : r ≡ entry.Upgrade 2 w.site.clock.now

-- or why the issue ended as it was told
pub record EndsAsTold (r : Record) (w : World) : Type 0 where
  pub issue : ℕ
  pub told : OperatorAnswer
  pub was_told : WasTold issue told w
  pub upgraded : w.engine.history.seen.lists.is_upgraded ≡ true
  pub is : r ≡ entry.Told issue w.site.clock.now told.status told.text

-- It is the Reply of the parcel in hand, by the run's number, the filter of the issue that waits, and what its bytes read as.
pub record WasReplied (r : Record) (w : World) : Type 0 where
  pub beat : ℕ
  pub parcel : Parcel
  pub in_hand : w.phase ≡ holds beat parcel
  pub is : IsReply w.engine.history parcel w.site.clock.now r

-- The issue waited for its filter, had been put since the files were opened, and was at or past its deadline, and no lower one
-- that was put was. The take of this turn had found no parcel, no move was enabled, and no issue that waits had an answer of an
-- operator.
pub record WasOverdue (issue : ℕ) (w : World) : Type 0 where
  pub found : FoundNone w.site w.site.clock.now
  pub no_move : enabled_move w.engine.history.seen w.site.clock.now ≡ None
  pub untold : (other : ℕ) (told : OperatorAnswer) → HasAnswer w other told → ⊥
  pub it : Issue
  pub waiting : IsWaiting w.engine.history.seen issue it
  pub put : 1 ≤ count_of w.engine.puts issue
  pub past : deadline_of w.engine.history.seen it ≤ w.site.clock.now
  pub least : (lower : ℕ) → lower < issue → is_by w.site.clock.now (put_deadline w.engine lower) ≡ false

-- by the record's kind; a Walk, a Send and an Ask are a move's
abbrev pub ShowsWhy : Given → ℕ → Record → World → Type 0
ShowsWhy given run (entry.Begin of_run moment books bind) w = WasToBegin given run (entry.Begin of_run moment books bind) w
ShowsWhy given run (entry.Reply issue moment status rule text) w = WasReplied (entry.Reply issue moment status rule text) w
ShowsWhy given run (entry.Expire issue moment) w = WasOverdue issue w
ShowsWhy given run (entry.Told issue moment status text) w = EndsAsTold (entry.Told issue moment status text) w
ShowsWhy given run (entry.Upgrade version moment) w =
    WasEnabled (entry.Upgrade version moment) w ⊎ WasToUpgrade (entry.Upgrade version moment) w
ShowsWhy given run r w = WasEnabled r w

-- ---- to which journal

-- no record, or first the Begin of this run, with the texts that were given
abbrev pub BeginsAs : Given → ℕ → List Record → Type 0
BeginsAs given run [] = ⊤
BeginsAs given run (first ∷ others) = (moment : ℕ) × (first ≡ begin_of given run moment)

-- The journal was that of the session's own run: of its number, and of what was given. So no record comes to a journal whose
-- Begin holds another number or other texts. The operators' answers were those of the start.
pub record IsOwnRun (given : Given) (run : ℕ) (a w : World) : Type 0 where
  pub of_run : w.engine.history.seen.run ≡ run
  pub given_is : w.engine.history.seen.given ≡ given
  pub begins : BeginsAs given run w.engine.history.records
  pub answers : w.notes.answers ≡ a.notes.answers

-- ---- by which call

-- One call appended the record to the journal of the run, behind those that stood there, at the clock's moment, which is not
-- before that of the last one.
pub record AppendedBehind (given : Given) (run : ℕ) (a b : World) (front : List Record) (r : Record) : Type 0 where
  pub old : World
  pub new : World
  pub before : Steps a old
  pub step : Step old new
  pub after : Steps new b
  pub was : old.engine.history.records ≡ a.engine.history.records ++ front
  pub has : new.engine.history.records ≡ old.engine.history.records ++ r ∷ []
  pub own : IsOwnRun given run a old
  pub moment : moment_of r ≡ old.site.clock.now
  pub no_earlier : old.engine.history.seen.moment ≤ moment_of r
  pub why : ShowsWhy given run r old

-- So came each record that a session appended, whether it closed or refused.
abbrev pub EachRecordCame : Type 0
EachRecordCame =
    (given : Given) (run most : ℕ) (answers : List OperatorAnswer) (old new : SiteView)
    (went : Went given run most answers old new)
    → (front back : List Record) (r : Record)
    → went.to.engine.history.records ≡ (went.start.engine.history.records ++ front) ++ r ∷ back
    → AppendedBehind given run went.start went.to front r

-- So, and by the last call, came one that may stand behind the others, since the disk failed while it was appended.
pub record OfferedLast (given : Given) (run : ℕ) (a b : World) (r : Record) : Type 0 where
  pub old : World
  pub before : Steps a old
  pub step : Step old b
  pub own : IsOwnRun given run a old
  pub moment : moment_of r ≡ old.site.clock.now
  pub no_earlier : old.engine.history.seen.moment ≤ moment_of r
  pub why : ShowsWhy given run r old

-- ---- moments

-- The moment of an appended record lies between those of the clock at the start and on return, and no record that the session
-- appended before it is of a later one.
pub record IsInTime (old new : SiteView) (front : List Record) (r : Record) : Type 0 where
  pub between : IsBetween old.clock.now new.clock.now r
  pub none_later : All (λ (other : Record). moment_of other ≤ moment_of r) front

abbrev pub EachRecordInTime : Type 0
EachRecordInTime =
    (given : Given) (run most : ℕ) (answers : List OperatorAnswer) (old new : SiteView)
    (went : Went given run most answers old new)
    → (front back : List Record) (r : Record)
    → went.to.engine.history.records ≡ (went.start.engine.history.records ++ front) ++ r ∷ back → IsInTime old new front r

-- the same of one that may stand behind the others
abbrev pub EachOfferedCame : Type 0
EachOfferedCame =
    (given : Given) (run most : ℕ) (answers : List OperatorAnswer) (old new : SiteView)
    (went : Went given run most answers old new)
    → (r : Record) → went.to.notes.unsure ≡ Some r
    → OfferedLast given run went.start went.to r × IsInTime old new went.sums.adds.added r
