-- Scaffold: Parts of reading lines: bytes that come, a line that stands first, and what one line more does.
use Rattle.std.specs.Prelude.{◌≡◌, ◌≢◌, ℕ, ◌+◌, ◌<◌, ◌≤◌, false, List, [], ◌∷◌, ◌++◌, length, take, drop, Option, Some, None}
use Rattle.cacao_site.specs.Counts.{next_count}
use Rattle.cacao_site.specs.LinkCalls.{GainsAll}
use Rattle.cacao_site.specs.declared.parcel.Parcel.{Parcel}
use Rattle.oc2_wire_link.specs.Links.{Comes, LinkView}
use Rattle.oc2_wire_lines.specs.Lines.{BeginsWithLine, IsOneLine, IsOther, nothing_line}
use Rattle.oc2_wire_site.specs.LineLinks.{HasEnded, HasNoLine, IsTooLong, LinesView, PassesOver, ReadsLines, ReadsOne}
use Rattle.oc2_wire_site.specs.declared.link_state.LinkState.{LinkState}
use Rattle.oc2_wire_site.specs.declared.link_state.LinkState.TheVariants as state

-- bytes were received and stand behind those that were unread; none was sent
pub record Fills (old new : LinkView) (was is : List ℕ) : Type 0 where
  pub came : List ℕ
  pub sent : new.sent ≡ old.sent
  pub received : GainsAll old.received came new.received
  pub to_come : Comes old.to_come came new.to_come
  pub unread : is ≡ was ++ came

-- there was no line, and more bytes came
pub record HasNoLineYet (was is : List ℕ) : Type 0 where
  pub one_line : IsOneLine was
  pub more : length was < length is

-- a line of so many bytes, without its line feed, stands first
pub record IsFirstLine (end : ℕ) (unread : List ℕ) : Type 0 where
  pub begins : BeginsWithLine unread (take end unread) (drop (end + 1) unread)
  pub inside : end < length unread

-- why no line came: with the count of faults before, the link after, and what is unread then
abbrev pub IsStop : LinkState → ℕ → LinkView → List ℕ → Type 0
IsStop state.Ended faults link unread = HasEnded link × HasNoLine unread × (link.faults ≡ faults)
IsStop state.Failed faults link unread = HasNoLine unread × (link.faults ≡ next_count faults)
IsStop state.TooLong faults link unread = IsTooLong unread × (link.faults ≡ faults)
IsStop state.NoMemory faults link unread = link.faults ≡ faults
IsStop other faults link unread = ⊥

-- one line that carries no command was read and answered
pub record PassesOne (old new : LinesView) : Type 0 where
  pub line : List ℕ
  pub other : IsOther false line
  pub lines : ReadsLines (line ∷ []) old new
  pub sent : GainsAll old.link.sent nothing_line new.link.sent
  pub faults : new.link.faults ≡ old.link.faults
  pub passed : new.passed ≡ old.passed + 1
  pub whole : new.state ≡ state.Whole

abbrev pub StepsOn : Option Parcel → LinesView → LinesView → Type 0
StepsOn (Some parcel) old new = ReadsOne false (Some parcel) old new
StepsOn None old new = PassesOne old new

-- the link broke before there was a line, or at the answer to one
pub record BreaksSoon (old new : LinesView) : Type 0 where
  pub over : List (List ℕ)
  pub most : length over ≤ 1
  pub passes : PassesOver over old new
  pub lines : ReadsLines over old new
  pub broken : new.state ≢ state.Whole
  pub not_flooded : new.state ≢ state.PassedOver
  pub answered : length over ≡ 1 → (new.state ≡ state.Failed) × (1 ≤ length passes.answers.behind)
  pub no_line : new.state ≡ state.Failed → passes.answers.behind ≡ [] → HasNoLine new.unread
