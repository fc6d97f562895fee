-- Promise: The records that a flow took one after another, and why it takes one or not.
use Rattle.std.specs.Prelude.{◌≡◌, ℕ, ◌+◌, ◌<◌, ◌≤◌, Bool, true, false, List, [], ◌∷◌, length, count_by, Some, None, ⊤}
use Rattle.cacao_check.specs.Fits.{FitsKind}
use Rattle.run_records.specs.Ranges.{last_moment}
use Rattle.run_records.specs.declared.record.Record.{Record}
use Rattle.flow_core_rules.specs.Accepted.{Accepted}
use Rattle.flow_core_rules.specs.Changes.{moment_of}
use Rattle.flow_core_rules.specs.Edits.{Edit}
use Rattle.flow_core_rules.specs.Givens.{Given}
use Rattle.flow_core_rules.specs.Runs.{Leads, begin_of}
use Rattle.flow_core_rules.specs.State.{State, Shown, shown}
use Rattle.flow_core_plans.specs.Setups.{AreAccepted}
use Rattle.flow_core.specs.Views.{View, blank_shown, is_makes, most_tasks, stepped, taken}
use Rattle.flow_core.specs.declared.flow_errors.FlowError.{FlowError}
use Rattle.flow_core.specs.declared.flow_errors.FlowError.TheVariants as flow_error
use Rattle.flow_core.specs.declared.flow_errors.LimitKind.TheVariants as limit

-- ---- the records so far

-- the records lead by what was given to a state, which shows this
pub record IsShownAfter (given : Given) (run : ℕ) (records : List Record) (seen : Shown) : Type 0 where
  pub state : State
  pub leads : Leads given run records state
  pub is : seen ≡ shown state

-- what is shown after the records of a run so far; nothing is before its Begin
abbrev pub IsSoFar : List Record → Shown → Type 0
IsSoFar [] seen = seen ≡ blank_shown seen.given seen.run
IsSoFar (first ∷ others) seen = IsShownAfter seen.given seen.run (first ∷ others) seen

-- the flow took these records and no other
pub record HasTaken (records : List Record) (flow : View) : Type 0 where
  pub count : flow.count ≡ length records
  pub so_far : IsSoFar records flow.seen

-- ---- one record more

-- the record was taken
pub record Took (old : View) (r : Record) (new : View) : Type 0 where
  pub edits : List Edit
  pub takes : taken old r ≡ Some edits
  pub new_is : new ≡ stepped (moment_of r, edits) old

-- it was taken, or it may not come next
abbrev pub IsStarted : View → Record → Bool → View → Type 0
IsStarted old r true new = Took old r new
IsStarted old r false new = taken old r ≡ None

-- a record may come next, and would make more than 1,000,000 tasks
pub record MakesTooMany (flow : View) (r : Record) : Type 0 where
  pub edits : List Edit
  pub takes : taken flow r ≡ Some edits
  pub many : most_tasks < length flow.seen.lists.tasks + count_by is_makes edits

-- Why a record in range was not taken: it may not come next, or it would make too many tasks. Want of memory is free.
abbrev pub RefusesRecord : View → Record → FlowError → Type 0
RefusesRecord flow r flow_error.NotEnabled = taken flow r ≡ None
RefusesRecord flow r (flow_error.Limit what) = (what ≡ limit.Tasks) × MakesTooMany flow r
RefusesRecord flow r flow_error.Memory = ⊤

-- ---- the Begin

-- of these texts nothing is accepted
abbrev pub NoneAccepted : List (List ℕ) → List ℕ → Type 0
NoneAccepted books bind = (given : Given) → Accepted AreAccepted FitsKind books bind given → ⊥

-- the record is the Begin of a run of what is accepted: it has canonical texts, and a moment that is not past the last one
pub record BeginsRun (r : Record) (given : Given) (run : ℕ) : Type 0 where
  pub moment : ℕ
  pub is : r ≡ begin_of given run moment
  pub in_time : moment ≤ last_moment
  pub accepted : Accepted AreAccepted FitsKind given.texts given.bind given

-- it begins none
abbrev pub BeginsNone : Record → Type 0
BeginsNone r = (given : Given) (run : ℕ) → BeginsRun r given run → ⊥

-- a flow before its Begin
abbrev pub idle : Given → ℕ → View
idle given run = record { count = 0; seen = blank_shown given run; plan = None }

-- the record begins a run, and the flow of that run took it
pub record HasBegun (r : Record) (flow : View) : Type 0 where
  pub begins : BeginsRun r flow.seen.given flow.seen.run
  pub took : Took (idle flow.seen.given flow.seen.run) r flow
