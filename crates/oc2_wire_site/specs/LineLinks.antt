-- Promise: A link over which lines go, as contracts see it, and what sending and reading lines does to it.
use Rattle.std.specs.Prelude.{◌≡◌, ◌≢◌, ◌⊎◌, ℕ, ◌+◌, ◌<◌, ◌≤◌, Bool, true, false, List, [], ◌∷◌, ◌++◌, length, take, All, Option, Some, None, Result, Ok, Err}
use Rattle.cacao_site.specs.Counts.{next_count}
use Rattle.cacao_site.specs.LinkCalls.{GainsAll}
use Rattle.cacao_site.specs.declared.parcel.Parcel.{Parcel}
use Rattle.oc2_wire_link.specs.Links.{Comes, LinkView, Sends}
use Rattle.oc2_wire_lines.specs.Lines.{AreLines, IsOneLine, IsOther, Reads, Spells, most_line, nothing_line}
use Rattle.oc2_wire_site.specs.declared.link_state.LinkState.{LinkState}
use Rattle.oc2_wire_site.specs.declared.link_state.LinkState.TheVariants as state

pub record LinesView : Type 0 where
  pub link : LinkView
  pub unread : List ℕ  -- the bytes that were received and are not read as lines yet
  pub passed : ℕ  -- how many lines were passed over
  pub state : LinkState  -- what broke it first

abbrev pub lines_view : LinkView → List ℕ → ℕ → LinkState → LinesView
lines_view link unread passed state = record { link = link; unread = unread; passed = passed; state = state }

-- ---- what broke a link

-- no byte is still to come, where they are told
abbrev pub HasEnded : LinkView → Type 0
HasEnded link = (more : List ℕ) → link.to_come ≡ Some more → more ≡ []

-- more bytes than a line may have are unread, and so many of them have no line feed
pub record IsTooLong (unread : List ℕ) : Type 0 where
  pub long : most_line < length unread
  pub one_line : IsOneLine (take most_line unread)

-- no line is unread, and what is may still be the front of one
pub record HasNoLine (unread : List ℕ) : Type 0 where
  pub one_line : IsOneLine unread
  pub short : length unread ≤ most_line

-- the most lines that one take passes over
abbrev pub most_passed : ℕ
most_passed = 1_000_000

-- what holds of each link over which lines go: no more bytes are unread than a line may have and one more; and the cause of each state
pub record IsLineLink (lines : LinesView) : Type 0 where
  pub small : length lines.unread ≤ most_line + 1
  pub ended : lines.state ≡ state.Ended → HasEnded lines.link
  pub no_line : lines.state ≡ state.Ended → HasNoLine lines.unread
  pub failed : lines.state ≡ state.Failed → 1 ≤ lines.link.faults
  pub too_long : lines.state ≡ state.TooLong → IsTooLong lines.unread
  pub passed_over : lines.state ≡ state.PassedOver → most_passed ≤ lines.passed

-- the count of faults took one more where a call of the link failed, and else stayed
pub record CountsFaults (old new : LinesView) : Type 0 where
  pub failed : new.state ≡ state.Failed → new.link.faults ≡ next_count old.link.faults
  pub faultless : new.state ≢ state.Failed → new.link.faults ≡ old.link.faults

-- ---- sending

-- the front of these bytes went out, and at least one byte did not
pub record SendsFront (bytes : List ℕ) (old new : LinkView) : Type 0 where
  pub front : List ℕ
  pub behind : List ℕ
  pub is : bytes ≡ front ++ behind
  pub some : 1 ≤ length behind
  pub sends : Sends front old new

-- nothing was read
pub record KeepsReading (old new : LinesView) : Type 0 where
  pub unread : new.unread ≡ old.unread
  pub passed : new.passed ≡ old.passed

-- these bytes went out whole
pub record SendsAll (bytes : List ℕ) (old new : LinesView) : Type 0 where
  pub sends : Sends bytes old.link new.link
  pub faults : new.link.faults ≡ old.link.faults
  pub keeps : KeepsReading old new
  pub whole : new.state ≡ state.Whole

-- a call of the link failed, which broke it, and these bytes did not go out whole
pub record FailsToSend (bytes : List ℕ) (old new : LinesView) : Type 0 where
  pub sends : SendsFront bytes old.link new.link
  pub faults : new.link.faults ≡ next_count old.link.faults
  pub keeps : KeepsReading old new
  pub failed : new.state ≡ state.Failed

-- ---- reading

-- these lines were read, in a row, of the bytes that were unread and those that came then; what stands behind them is unread
pub record ReadsLines (lines : List (List ℕ)) (old new : LinesView) : Type 0 where
  pub came : List ℕ
  pub received : GainsAll old.link.received came new.link.received
  pub to_come : Comes old.link.to_come came new.link.to_come
  pub are : AreLines (old.unread ++ came) lines new.unread

-- the count of lines passed over, after one was read as this
abbrev pub passed_after : Option Parcel → ℕ → ℕ
passed_after None passed = passed + 1
passed_after (Some parcel) passed = passed

-- one line was read, at an end that gets the parcels that go this way: it carries this one, or is passed over
pub record ReadsOne (back : Bool) (taken : Option Parcel) (old new : LinesView) : Type 0 where
  pub line : List ℕ
  pub reads : Reads back line taken
  pub lines : ReadsLines (line ∷ []) old new
  pub sent : new.link.sent ≡ old.link.sent
  pub faults : new.link.faults ≡ old.link.faults
  pub passed : new.passed ≡ passed_after taken old.passed
  pub whole : new.state ≡ state.Whole

-- the link broke before there was a line
pub record BreaksFirst (old new : LinesView) : Type 0 where
  pub lines : ReadsLines [] old new
  pub sent : new.link.sent ≡ old.link.sent
  pub faults : CountsFaults old new
  pub passed : new.passed ≡ old.passed
  pub broken : new.state ≢ state.Whole
  pub not_flooded : new.state ≢ state.PassedOver
  pub no_line : new.state ≡ state.Failed → HasNoLine new.unread  -- no line stood unread where a call of the link failed

-- the line for nothing, once for each of these lines
abbrev pub nothings : List (List ℕ) → List ℕ
nothings [] = []
nothings (line ∷ lines) = nothing_line ++ nothings lines

-- the line for nothing was sent for each of these lines; where a call of the link failed, the last one may not have gone out whole
pub record Answers (over : List (List ℕ)) (old new : LinesView) : Type 0 where
  pub front : List ℕ
  pub behind : List ℕ
  pub is : nothings over ≡ front ++ behind
  pub sent : GainsAll old.link.sent front new.link.sent
  pub most : length behind ≤ length nothing_line
  pub all : new.state ≢ state.Failed → behind ≡ []

-- these lines carry no command; each was counted and answered
pub record PassesOver (over : List (List ℕ)) (old new : LinesView) : Type 0 where
  pub each : All (IsOther false) over
  pub answers : Answers over old new
  pub passed : new.passed ≡ old.passed + length over
  pub faults : CountsFaults old new

-- lines were passed over, and the next one is that of this command
pub record TakesCommand (parcel : Parcel) (old new : LinesView) : Type 0 where
  pub over : List (List ℕ)
  pub line : List ℕ
  pub few : length over < most_passed
  pub passes : PassesOver over old new
  pub spells : Spells line parcel
  pub command : parcel.back ≡ false
  pub lines : ReadsLines (over ++ line ∷ []) old new
  pub whole : new.state ≡ state.Whole

-- Lines were passed over, and then the link broke: at the answer to the last one, or as no further line stood unread. Behind as many as
-- one take passes over it broke for that alone, but at the last answer.
pub record BreaksOver (old new : LinesView) : Type 0 where
  pub over : List (List ℕ)
  pub few : length over ≤ most_passed
  pub passes : PassesOver over old new
  pub lines : ReadsLines over old new
  pub broken : new.state ≢ state.Whole
  pub flooded : new.state ≡ state.PassedOver → length over ≡ most_passed
  pub many : length over ≡ most_passed → (new.state ≡ state.PassedOver) ⊎ ((new.state ≡ state.Failed) × (1 ≤ length passes.answers.behind))
  pub no_line : new.state ≡ state.Failed → passes.answers.behind ≡ [] → HasNoLine new.unread

abbrev pub ReadsOn : Option Parcel → LinesView → LinesView → Type 0
ReadsOn (Some parcel) old new = TakesCommand parcel old new
ReadsOn None old new = BreaksOver old new

-- ---- taking

-- what was taken; none where the call was refused
abbrev pub taken_of : {E : Type 0} → Result (Option Parcel) E → Option Parcel
taken_of (Ok taken) = taken
taken_of (Err error) = None

-- nothing was sent, received or read, and nothing breaks the link but want of memory
pub record KeepsLines (old new : LinesView) : Type 0 where
  pub link : new.link ≡ old.link
  pub reading : KeepsReading old new
  pub stays : (new.state ≡ old.state) ⊎ (new.state ≡ state.NoMemory)

-- one line was read, or the link broke before
abbrev pub AsksOne : Option Parcel → LinesView → LinesView → Type 0
AsksOne taken old new = ReadsOne true taken old new ⊎ ((taken ≡ None) × BreaksFirst old new)

-- what a take does, at the end that asks, if a line is owed to it, and at the end that answers
pub record TakesBy (asking owed : Bool) (taken : Option Parcel) (old new : LinesView) : Type 0 where
  pub broken : old.state ≢ state.Whole → (taken ≡ None) × (new ≡ old)
  pub unowed : asking ≡ true → owed ≡ false → (taken ≡ None) × KeepsLines old new
  pub asks : asking ≡ true → owed ≡ true → old.state ≡ state.Whole → AsksOne taken old new
  pub answers : asking ≡ false → old.state ≡ state.Whole → ReadsOn taken old new
