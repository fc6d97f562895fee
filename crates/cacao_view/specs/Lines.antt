-- Promise: The lines that a call says.
use Rattle.std.specs.Prelude.{◌≡◌, ◌⊎◌, ℕ, List, [], ◌∷◌, ◌++◌, Bool, true, false, Option, Some, None}
use Rattle.cacao_site.specs.Counts.{next_count}
use Rattle.cacao_site.specs.LinkCalls.{Gains}
use Rattle.cacao_site.specs.SayCalls.{SaysOnly}
use Rattle.cacao_site.specs.View.{SiteView}
use Rattle.cacao_cli_ends.specs.Lines as of_cacao
use Rattle.cacao_view_words.specs.Texts.{Text}
use Rattle.cacao_view.specs.Ends.{End, done, ends_as, last_line, not_understood, status_of, unsaid}

-- how often `say` has failed
abbrev pub unsaid_count : SiteView → ℕ
unsaid_count site = site.counts.unsaid

-- the line was said, and nothing else changed
pub record SaysLine (line : Text) (old new : SiteView) : Type 0 where
  pub only : SaysOnly old new
  pub said : Gains old.link.said (new.disk.beat, line) new.link.said
  pub count : unsaid_count new ≡ unsaid_count old

-- a line could not be said, and nothing else changed
pub record FailsToSay (old new : SiteView) : Type 0 where
  pub only : SaysOnly old new
  pub said : new.link.said ≡ old.link.said
  pub count : unsaid_count new ≡ next_count (unsaid_count old)

-- the lines were said in order, each by one call
abbrev pub SaysAll : List Text → SiteView → SiteView → Type 0
SaysAll [] old new = new ≡ old
SaysAll (line ∷ lines) old new = (between : SiteView) × SaysLine line old between × SaysAll lines between new

-- one of the lines could not be said, and none behind it was
pub record FailsAmong (lines : List Text) (old new : SiteView) : Type 0 where
  pub front : List Text
  pub line : Text
  pub behind : List Text
  pub is : lines ≡ front ++ line ∷ behind
  pub between : SiteView
  pub says : SaysAll front old between
  pub fails : FailsToSay between new

-- all the lines were said, or one could not be
abbrev pub SaysOrStops : List Text → Bool → SiteView → SiteView → Type 0
SaysOrStops lines true old new = SaysAll lines old new
SaysOrStops lines false old new = FailsAmong lines old new

-- all the lines were said, and the end is this one; or one could not be said
abbrev pub SaysWork : List Text → End → SiteView → SiteView → End → Type 0
SaysWork lines end old new last =
    (SaysAll lines old new × (last ≡ end)) ⊎ (FailsAmong lines old new × (last ≡ unsaid))

-- the line was said and this status answered; or it could not be said
abbrev pub SaysLast : Text → ℕ → SiteView → SiteView → ℕ → Type 0
SaysLast line status old new answer =
    (SaysLine line old new × (answer ≡ status)) ⊎ (FailsToSay old new × (answer ≡ 9))

abbrev pub TellsLine : Option Text → ℕ → SiteView → SiteView → ℕ → Type 0
TellsLine None status old new answer = (new ≡ old) × (answer ≡ status)
TellsLine (Some line) status old new answer = SaysLast line status old new answer

-- the last line, if the end has one, and its status
abbrev pub Tells : End → SiteView → SiteView → ℕ → Type 0
Tells done = TellsLine (last_line done) (status_of done)
Tells (not_understood wanted) = TellsLine (last_line (not_understood wanted)) (status_of (not_understood wanted))
Tells unsaid = TellsLine (last_line unsaid) (status_of unsaid)
Tells (ends_as end) = of_cacao.Tells end
