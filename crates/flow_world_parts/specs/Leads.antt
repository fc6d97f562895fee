-- Scaffold: Where the functions of a session lead: from each world that has what they know, to one that has what they left.
use Rattle.std.specs.Prelude.{◌≡◌, ◌≢◌, ℕ, ◌+◌, ◌<◌, ◌≤◌, Bool, true, false, List, Contains, Option, Some, None, Result, Ok, Err, slice_get, ⊤}
use Rattle.cacao_site.specs.View.{SiteView}
use Rattle.cacao_site.specs.declared.parcel.Parcel.{Parcel}
use Rattle.flow_engine_answers.specs.declared.answers.OperatorAnswer.{OperatorAnswer}
use Rattle.flow_world_steps.specs.EngineCalls.{IsWaiting}
use Rattle.flow_world_steps.specs.EngineView.{EngineView}
use Rattle.flow_world_steps.specs.OpenIssues.{puts_of}
use Rattle.flow_core_rules.specs.Changes.{is_in_time, is_waiting}
use Rattle.flow_core_rules.specs.declared.issues.Issue.{Issue}
use Rattle.slpf_actuator.specs.ActuatorView.{ActuatorView}
use Rattle.flow_world_steps.specs.Sides.{AllPut, FiltersReady, IsUp}
use Rattle.flow_world_steps.specs.Steps.{Steps}
use Rattle.flow_world_steps.specs.Turns.{most_ignored}
use Rattle.flow_world_steps.specs.Worlds.{Notes, Phase, World, holds, looked, rests}
use Rattle.flow_world_parts.specs.Closes.{IsClose, IsRefusal}
use Rattle.flow_world_parts.specs.declared.close.Close.{Close}
use Rattle.flow_world_parts.specs.declared.error.WorldError.{WorldError}
use Rattle.flow_world_parts.specs.declared.turns.Session.{Session}

-- the world with all this
abbrev pub at : SiteView → EngineView → List ActuatorView → Notes → Phase → World
at site v filters notes phase = record { site = site; engine = v; filters = filters; notes = notes; phase = phase }

-- ---- ends

-- calls led to a refusal, which left this site
pub record RefusesAt (error : WorldError) (site : SiteView) (from : World) : Type 0 where
  pub to : World
  pub steps : Steps from to
  pub left_is : to.site ≡ site
  pub refuses : IsRefusal error to

-- calls led to a close, which left this site
pub record ClosesAt (close : Close) (site : SiteView) (from : World) : Type 0 where
  pub to : World
  pub steps : Steps from to
  pub left_is : to.site ≡ site
  pub closes : IsClose close to

-- ---- the engine's side, which knows nothing of the filters

-- An engine at work: its file holds its records, its run has begun, and a record may come at the present moment.
pub record IsAtWork (v : EngineView) (site : SiteView) : Type 0 where
  pub up : IsUp v site
  pub in_time : is_in_time v.history.seen site.clock.now ≡ true

-- each issue with a lower number that waits for a filter was put
abbrev pub ArePutBelow : ℕ → EngineView → Type 0
ArePutBelow n v = (lower : ℕ) (it : Issue) → lower < n → IsWaiting v.history.seen lower it → puts_of v.puts lower ≢ None

-- an issue is there and waits, for a filter or an operator
pub record IsWaitingFor (v : EngineView) (issue : ℕ) : Type 0 where
  pub it : Issue
  pub there : slice_get v.history.seen.lists.issues issue ≡ Some it
  pub waits : is_waiting it.phase ≡ true

-- and has an answer
pub record IsTold (v : EngineView) (answers : List OperatorAnswer) (issue : ℕ) : Type 0 where
  pub waiting : IsWaitingFor v issue
  pub told : OperatorAnswer
  pub has : Contains answers told
  pub of_issue : told.issue ≡ issue

-- the least issue that waits and has an answer; none where no issue does
abbrev pub IsLeastTold : EngineView → List OperatorAnswer → Option ℕ → Type 0
IsLeastTold v answers None = (issue : ℕ) → IsTold v answers issue → ⊥
IsLeastTold v answers (Some issue) = IsTold v answers issue × ((lower : ℕ) → lower < issue → IsTold v answers lower → ⊥)

-- whatever filters there are, their files stay
abbrev pub KeepsFilters : SiteView → SiteView → Type 0
KeepsFilters old new = (filters : List ActuatorView) → FiltersReady filters old → FiltersReady filters new

-- whatever was noted
abbrev pub AnyNotes : Notes → Type 0
AnyNotes notes = ⊤

-- one record more may be appended
abbrev pub MayAppend : Notes → Type 0
MayAppend notes = 1 ≤ notes.left

-- one record more may be appended, and this is what operators answered
pub record MayAnswer (answers : List OperatorAnswer) (notes : Notes) : Type 0 where
  pub answers_are : notes.answers ≡ answers
  pub budget : 1 ≤ notes.left

-- so many records more were appended, and what was given and ignored stays
pub record AddsTo (n : ℕ) (old new : Notes) : Type 0 where
  pub left : new.left + n ≡ old.left
  pub answers : new.answers ≡ old.answers
  pub ignored : new.ignored ≡ old.ignored

-- calls led to this site, engine and phase, and appended so many records
pub record EngineLeads (n : ℕ) (from : World) (site : SiteView) (v : EngineView) (phase : Phase) : Type 0 where
  pub notes : Notes
  pub steps : Steps from (at site v from.filters notes phase)
  pub adds : AddsTo n from.notes notes

-- so it is from each world with this site, engine and phase, whose notes have P
abbrev pub EngineGoes : (Notes → Type 0) → ℕ → SiteView → EngineView → Phase → SiteView → EngineView → Phase → Type 0
EngineGoes P n so v p sn w q =
    (filters : List ActuatorView) (notes : Notes) → P notes → EngineLeads n (at so v filters notes p) sn w q

abbrev pub EngineRefuses : (Notes → Type 0) → WorldError → SiteView → EngineView → Phase → SiteView → Type 0
EngineRefuses P error so v p sn =
    (filters : List ActuatorView) (notes : Notes) → P notes → RefusesAt error sn (at so v filters notes p)

-- what becomes of a call of the engine's side that came from such a world: it goes on to a new turn, or refuses
abbrev pub EngineDid : {T : Type 0} → Result T WorldError → (Notes → Type 0) → ℕ → SiteView → EngineView → Phase → SiteView
    → EngineView → Type 0
EngineDid (Ok done) P n so v p sn w = EngineGoes P n so v p sn w rests
EngineDid (Err error) P n so v p sn w = EngineRefuses P error so v p sn

-- the same of a call that may not apply: then nothing changed, and this is why
abbrev pub EngineTried : Result Bool WorldError → (Notes → Type 0) → Type 0 → ℕ → SiteView → EngineView → Phase → SiteView
    → EngineView → Type 0
EngineTried (Ok true) P Why n so v p sn w = EngineGoes P n so v p sn w rests
EngineTried (Ok false) P Why n so v p sn w = Why × (w ≡ v) × (sn ≡ so)
EngineTried (Err error) P Why n so v p sn w = EngineRefuses P error so v p sn

-- a take of the turn has found no parcel, and all this holds of such a world
abbrev pub WhereLooked : (World → Type 0) → List OperatorAnswer → SiteView → EngineView → Type 0
WhereLooked P answers site v =
    (filters : List ActuatorView) (notes : Notes) → MayAnswer answers notes → P (at site v filters notes looked)

-- ---- the filters' side, which knows nothing of the engine

-- calls led to this site and these filters, and so many parcels more changed nothing
pub record FiltersLead (n : ℕ) (from : World) (site : SiteView) (filters : List ActuatorView) : Type 0 where
  pub notes : Notes
  pub steps : Steps from (at site from.engine filters notes rests)
  pub left : notes.left ≡ from.notes.left
  pub answers : notes.answers ≡ from.notes.answers
  pub ignored : notes.ignored ≡ from.notes.ignored + n

-- so it is from each world where this parcel is in hand, and not too many parcels changed nothing
abbrev pub FiltersGo : ℕ → ℕ → Parcel → SiteView → List ActuatorView → SiteView → List ActuatorView → Type 0
FiltersGo n beat parcel so fs sn gs =
    (v : EngineView) (notes : Notes) → notes.ignored + 1 ≤ most_ignored
    → FiltersLead n (at so v fs notes (holds beat parcel)) sn gs

abbrev pub FiltersRefuse : WorldError → ℕ → Parcel → SiteView → List ActuatorView → SiteView → Type 0
FiltersRefuse error beat parcel so fs sn =
    (v : EngineView) (notes : Notes) → RefusesAt error sn (at so v fs notes (holds beat parcel))

-- what becomes of a command that is handed on: its filter acts, or repeats its reply, or the session refuses
abbrev pub FilterDid : Result Bool WorldError → ℕ → Parcel → SiteView → List ActuatorView → SiteView → List ActuatorView → Type 0
FilterDid (Ok true) beat parcel so fs sn gs = FiltersGo 0 beat parcel so fs sn gs
FilterDid (Ok false) beat parcel so fs sn gs = FiltersGo 1 beat parcel so fs sn gs
FilterDid (Err error) beat parcel so fs sn gs = FiltersRefuse error beat parcel so fs sn

-- ---- both

-- the world of a session
abbrev pub world_of : SiteView → Session → Notes → Phase → World
world_of site s notes phase = at site s.engine s.filters notes phase

-- what the session counts is what was noted
pub record Counts (answers : List OperatorAnswer) (s : Session) (notes : Notes) : Type 0 where
  pub answers_are : notes.answers ≡ answers
  pub left : notes.left ≡ s.left
  pub ignored : notes.ignored ≡ s.ignored

-- calls led to this site and session, in that phase
pub record Leads (answers : List OperatorAnswer) (from : World) (site : SiteView) (s : Session) (phase : Phase) : Type 0 where
  pub notes : Notes
  pub steps : Steps from (world_of site s notes phase)
  pub counts : Counts answers s notes

abbrev pub Goes : List OperatorAnswer → SiteView → Session → Phase → SiteView → Session → Phase → Type 0
Goes answers so s p sn t q = (notes : Notes) → Counts answers s notes → Leads answers (world_of so s notes p) sn t q

abbrev pub Refuses : WorldError → List OperatorAnswer → SiteView → Session → Phase → SiteView → Type 0
Refuses error answers so s p sn = (notes : Notes) → Counts answers s notes → RefusesAt error sn (world_of so s notes p)

abbrev pub ClosesFrom : Close → List OperatorAnswer → SiteView → Session → Phase → SiteView → Type 0
ClosesFrom close answers so s p sn = (notes : Notes) → Counts answers s notes → ClosesAt close sn (world_of so s notes p)

-- what becomes of a call of a session that came from such worlds: it goes on to a new turn, or refuses
abbrev pub Did : {T : Type 0} → Result T WorldError → List OperatorAnswer → SiteView → Session → Phase → SiteView → Session
    → Type 0
Did (Ok done) answers so s p sn t = Goes answers so s p sn t rests
Did (Err error) answers so s p sn t = Refuses error answers so s p sn

-- or it closes
abbrev pub Turned : Result (Option Close) WorldError → List OperatorAnswer → SiteView → Session → Phase → SiteView → Session
    → Type 0
Turned (Ok None) answers so s p sn t = Goes answers so s p sn t rests
Turned (Ok (Some close)) answers so s p sn t = ClosesFrom close answers so s p sn
Turned (Err error) answers so s p sn t = Refuses error answers so s p sn

-- it closes in the end, or refuses
abbrev pub Ended : Result Close WorldError → List OperatorAnswer → SiteView → Session → Phase → SiteView → Type 0
Ended (Ok close) answers so s p sn = ClosesFrom close answers so s p sn
Ended (Err error) answers so s p sn = Refuses error answers so s p sn

-- between its calls: the engine is at work, the files of the filters hold their acts, and the session knows the present moment
pub record IsWorking (s : Session) (site : SiteView) : Type 0 where
  pub engine : IsAtWork s.engine site
  pub filters : FiltersReady s.filters site
  pub now : s.now ≡ site.clock.now

-- a turn may begin, if the session does not close: each issue that waits for a filter was put, and not too many parcels changed nothing
pub record IsBetweenTurns (s : Session) (site : SiteView) : Type 0 where
  pub works : IsWorking s site
  pub put : AllPut s.engine
  pub calm : s.ignored + 1 ≤ most_ignored

-- ---- from the opening on

-- nothing was appended or ignored yet
pub record IsNewTo (answers : List OperatorAnswer) (most : ℕ) (notes : Notes) : Type 0 where
  pub answers_are : notes.answers ≡ answers
  pub left : notes.left ≡ most
  pub ignored : notes.ignored ≡ 0

-- what becomes of a session that came from such a world
abbrev pub EndedAt : Result Close WorldError → SiteView → World → Type 0
EndedAt (Ok close) site from = ClosesAt close site from
EndedAt (Err error) site from = RefusesAt error site from
