-- Promise: What a session did to its run, told of the bytes of file 0: what it added, when, and how far it asked the clock.
use Rattle.std.specs.Prelude.{◌≡◌, ◌⊎◌, ℕ, ◌≤◌, IsTrue, List, [], ◌∷◌, ◌++◌, All, Some}
use Rattle.cacao_site.specs.DiskCalls.{SameRest}
use Rattle.cacao_site.specs.Sound.{IsSound}
use Rattle.cacao_site.specs.View.{SiteView}
use Rattle.run_records.specs.Ranges.{last_moment}
use Rattle.run_records.specs.declared.record.Record.{Record}
use Rattle.flow_core_rules.specs.Changes.{moment_of}
use Rattle.flow_core_rules.specs.Givens.{Given}
use Rattle.flow_core_rules.specs.Moves.{due}
use Rattle.flow_core_rules.specs.State.{Shown}
use Rattle.flow_engine_answers.specs.declared.answers.OperatorAnswer.{OperatorAnswer}
use Rattle.flow_laws.specs.Journals.{IsShownAfter}
use Rattle.flow_world_steps.specs.Steps.{Steps}
use Rattle.flow_world_steps.specs.Sums.{IsBetween}
use Rattle.flow_world_steps.specs.Whole.{IsOpened}
use Rattle.flow_world_steps.specs.Worlds.{World}
use Rattle.flow_world_parts.specs.Openings.{IsJournalOpen}
use Rattle.flow_world_parts.specs.declared.close.Close.{Close}
use Rattle.flow_world_parts.specs.declared.error.WorldError.{WorldError}
use Rattle.flow_world.specs.Sessions.{HasClosed, HasRefused, RefusesLater}
use Rattle.flow_world_laws.specs.Prefixes.{FromAStart, GoesOn, GoesOnDurably}

-- ---- the clock

-- the moment of the last record, or this one where there is none
abbrev pub last_of : ℕ → List Record → ℕ
last_of moment [] = moment
last_of moment (r ∷ records) = last_of (moment_of r) records

-- Some front of the run on return, with all that stood there at the start, shows something due, no earlier than this moment,
-- which is within the limit.
pub record WasDue (before added : List Record) (moment : ℕ) : Type 0 where
  pub front : List Record
  pub back : List Record
  pub is : added ≡ front ++ back
  pub seen : Shown
  pub shows : IsShownAfter (before ++ front) seen
  pub at : ℕ
  pub due_is : due seen ≡ Some at
  pub no_later : moment ≤ at
  pub in_time : moment ≤ last_moment

-- The greatest moment that the clock was asked for is no later than it was at the start, than the last moment of the run of then
-- (0 where it was empty), or than what was due meanwhile.
abbrev pub ReachesNoFurther : List Record → List Record → ℕ → ℕ → Type 0
ReachesNoFurther before added was now = (now ≤ was) ⊎ ((now ≤ last_of 0 before) ⊎ WasDue before added now)

-- ---- the run

-- of a run and what was added to it: each of these records is of a moment from the clock's at the start to the clock's on return
pub record AddsInTime (old new : SiteView) (before added : List Record) : Type 0 where
  pub moments : All (IsBetween old.clock.now new.clock.now) added
  pub reaches : ReachesNoFurther before added old.clock.furthest new.clock.furthest

-- What a session did to the run: it goes on from what an image of file 0 stood for, by these records, and so did the clock.
pub record Returns (most : ℕ) (old new : SiteView) : Type 0 where
  pub goes_on : GoesOn most old new
  pub in_time : AddsInTime old new goes_on.before goes_on.added

-- the same of a session that opened file 0
pub record ReturnsDurably (most : ℕ) (old new : SiteView) : Type 0 where
  pub goes_on : GoesOnDurably most old new
  pub in_time : AddsInTime old new goes_on.goes_on.before goes_on.goes_on.added

-- So it is of each session that closed, and of each that refused once its files were open; and of each that refused.
abbrev pub EachCloseReturns : Type 0
EachCloseReturns = (close : Close) → FromAStart ReturnsDurably (HasClosed close)

abbrev pub EachLaterRefusalReturns : Type 0
EachLaterRefusalReturns = (error : WorldError) → FromAStart ReturnsDurably (RefusesLater error)

abbrev pub EachRefusalReturns : Type 0
EachRefusalReturns = (error : WorldError) → FromAStart Returns (HasRefused error)

-- ---- wherever the filters stand

-- The journal was opened, and maybe other files; a session began at the one world, and its calls led to the other, whose site is
-- the one on return. (`Went` of `flow_world` has this, with the files of filters; so has `Serves` of `oc2_wire`, without.)
pub record IsSession (given : Given) (run most : ℕ) (answers : List OperatorAnswer) (a b : World) (old new : SiteView) : Type 0 where
  pub middle : SiteView
  pub journal : IsJournalOpen given run old middle a.engine
  pub rest : SameRest middle a.site
  pub begins : IsOpened a given run most answers
  pub steps : Steps a b
  pub to_is : b.site ≡ new

-- So, on a site that tells its files, where it is known that file 0 goes on durably, it does so in time.
abbrev pub EachSessionAddsInTime : Type 0
EachSessionAddsInTime =
    (given : Given) (run most : ℕ) (answers : List OperatorAnswer) (a b : World) (old new : SiteView)
    → IsSession given run most answers a b old new → IsSound new → IsTrue old.disk.told → IsTrue new.disk.told
    → (goes_on : GoesOnDurably most old new) → AddsInTime old new goes_on.goes_on.before goes_on.goes_on.added
