-- Promise: The lines that a call says.
use Rattle.std.specs.Prelude.{◌≡◌, ◌⊎◌, ℕ, List, [], ◌∷◌, ◌++◌, Bool, true, false, Option, Some, None, codes}
use Rattle.cacao_site.specs.Counts.{next_count}
use Rattle.cacao_site.specs.LinkCalls.{Gains}
use Rattle.cacao_site.specs.SayCalls.{SaysOnly}
use Rattle.cacao_site.specs.View.{SiteView}
use Rattle.cacao_cli_words.specs.Words.{Text}
use Rattle.cacao_cli_ends.specs.Ends.{End, status_of, text_of, is_fault, unsaid, no_memory}

-- the line was said, and nothing else changed
pub record SaysLine (line : Text) (old new : SiteView) : Type 0 where
  pub only : SaysOnly old new
  pub said : Gains old.link.said (new.disk.beat, line) new.link.said
  pub unsaid : new.counts.unsaid ≡ old.counts.unsaid

-- a line could not be said, and nothing else changed
pub record FailsToSay (old new : SiteView) : Type 0 where
  pub only : SaysOnly old new
  pub said : new.link.said ≡ old.link.said
  pub unsaid : new.counts.unsaid ≡ next_count old.counts.unsaid

-- at most one call of `say` was made, and nothing else changed
abbrev pub SaysAtMostALine : SiteView → SiteView → Type 0
SaysAtMostALine old new = (new ≡ old) ⊎ SaysOnly old new

-- the lines were said in order, each by one call
abbrev pub SaysAll : List Text → SiteView → SiteView → Type 0
SaysAll [] old new = new ≡ old
SaysAll (line ∷ lines) old new = (between : SiteView) × SaysLine line old between × SaysAll lines between new

-- all the lines were said; or one of them could not be said, and none behind it was
pub record FailsAmong (lines : List Text) (old new : SiteView) : Type 0 where
  pub front : List Text
  pub line : Text
  pub behind : List Text
  pub is : lines ≡ front ++ line ∷ behind
  pub between : SiteView
  pub says : SaysAll front old between
  pub fails : FailsToSay between new

abbrev pub SaysOrStops : List Text → Bool → SiteView → SiteView → Type 0
SaysOrStops lines true old new = SaysAll lines old new
SaysOrStops lines false old new = FailsAmong lines old new

-- one of the lines could not be said, and none behind it was
pub record StopsSaying (lines : List Text) (old new : SiteView) (last : End) : Type 0 where
  pub front : List Text
  pub line : Text
  pub behind : List Text
  pub is : lines ≡ front ++ line ∷ behind
  pub between : SiteView
  pub says : SaysAll front old between
  pub fails : FailsToSay between new
  pub ends : last ≡ unsaid

-- all the lines were said, and the end is this one
pub record SaysWhole (lines : List Text) (end : End) (old new : SiteView) (last : End) : Type 0 where
  pub says : SaysAll lines old new
  pub ends : last ≡ end

-- memory was wanted and nothing was said, in the place of an end that tells no fault
pub record WantsMemory (end : End) (old new : SiteView) (last : End) : Type 0 where
  pub same : new ≡ old
  pub no_fault : is_fault end ≡ false
  pub ends : last ≡ no_memory

-- these lines and this end, but for a line that could not be said and want of memory
abbrev pub SaysWork : List Text → End → SiteView → SiteView → End → Type 0
SaysWork lines end old new last =
    SaysWhole lines end old new last ⊎ (StopsSaying lines old new last ⊎ WantsMemory end old new last)

-- the last line was said, and its status answered
pub record SaysLast (line : Text) (status : ℕ) (old new : SiteView) (answer : ℕ) : Type 0 where
  pub says : SaysLine line old new
  pub answers : answer ≡ status

-- the last line could not be said
pub record FailsAtLast (old new : SiteView) (answer : ℕ) : Type 0 where
  pub fails : FailsToSay old new
  pub answers : answer ≡ 9

abbrev pub SaysOrFails : Text → ℕ → SiteView → SiteView → ℕ → Type 0
SaysOrFails line status old new answer = SaysLast line status old new answer ⊎ FailsAtLast old new answer

-- memory was wanted for the last line, which tells no fault
pub record WantsAtLast (end : End) (old new : SiteView) (answer : ℕ) : Type 0 where
  pub same : new ≡ old
  pub no_fault : is_fault end ≡ false
  pub answers : answer ≡ 10

-- there is no last line
pub record SaysNoMore (status : ℕ) (old new : SiteView) (answer : ℕ) : Type 0 where
  pub same : new ≡ old
  pub answers : answer ≡ status

abbrev pub TellsText : End → Option Text → SiteView → SiteView → ℕ → Type 0
TellsText end None old new answer = SaysNoMore (status_of end) old new answer
TellsText end (Some text) old new answer =
    SaysOrFails (text ++ codes "\n") (status_of end) old new answer ⊎ WantsAtLast end old new answer

-- the last line, if the end has one, and its status
abbrev pub Tells : End → SiteView → SiteView → ℕ → Type 0
Tells end = TellsText end (text_of end)
