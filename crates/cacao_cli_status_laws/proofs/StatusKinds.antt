-- Which statuses come of which causes.
use Rattle.std.proofs.Common.{◌≡◌, ℕ, List, [], ◌∷◌, Option}
use Rattle.cacao_site.specs.View.{SiteView}
use Rattle.cacao_cli_ends.specs.Asked.{Asked}
use Rattle.cacao_cli_ends.specs.Ends.{End, status_of}
use Rattle.cacao_cli_ends.specs.Files.{Files, files_of, reading}
use Rattle.cacao_cli_ends.specs.Work.{work}
use Rattle.cacao_cli_ends.specs.Comes.{IsOneOf, stands_for}
use Rattle.cacao_cli_status_laws.specs.Causes.{FindsDisagreement, IsUnreadable, IsPastLimit, IsRefused, CanBeDone, FindsItDamaged, EndsAs}
use Rattle.cacao_cli_ends.specs.FileCauses.{IsMissing}
use Rattle.cacao_cli_status_laws.proofs.ExactLemmas.{Comes}
use Rattle.cacao_cli_ends.proofs.EndCases.{session_only}

-- the status is one that may come of the work that these files call for
abbrev pub Called : Option Asked → Files → SiteView → SiteView → ℕ → Type 0
Called asked files old new n = Comes (work asked (reading files (files_of asked))) old new n

-- each cause that the files alone settle gives its status, and comes of it
pub record FileStatuses (asked : Option Asked) (files : Files) (n : ℕ) : Type 0 where
  pub is_refused : n ≡ 1 → IsRefused asked files
  pub refused_is : IsRefused asked files → n ≡ 1
  pub is_missing : n ≡ 4 → IsMissing files (files_of asked)
  pub missing_is : IsMissing files (files_of asked) → n ≡ 4
  pub is_unreadable : n ≡ 5 → IsUnreadable asked files
  pub unreadable_is : IsUnreadable asked files → n ≡ 5
  pub is_disagreed : n ≡ 18 → FindsDisagreement asked files
  pub disagreed_is : FindsDisagreement asked files → n ≡ 18

-- each cause that the disk settles too
pub record ToldStatuses (asked : Option Asked) (files : Files) (old new : SiteView) (n : ℕ) : Type 0 where
  pub is_done : n ≡ 0 → CanBeDone asked files old new
  pub done_is : CanBeDone asked files old new → IsOneOf n (0 ∷ stands_for asked old new 0)
  pub is_past : n ≡ 11 → IsPastLimit asked files old new
  pub past_is : IsPastLimit asked files old new → IsOneOf n (11 ∷ stands_for asked old new 11)
  pub is_damaged : n ≡ 13 → FindsItDamaged asked files old new
  pub damaged_is : FindsItDamaged asked files old new → IsOneOf n (13 ∷ stands_for asked old new 13)

-- a session came to an end with this status
pub record SessionEnds (asked : Option Asked) (files : Files) (old new : SiteView) (n : ℕ) : Type 0 where
  pub last : End
  pub held : EndsAs asked files last old new
  pub is : n ≡ status_of last

-- the statuses that the clauses settle by the end of a session
abbrev pub settling : List ℕ
settling = 0 ∷ 6 ∷ 7 ∷ 12 ∷ 13 ∷ 14 ∷ 11 ∷ 15 ∷ 16 ∷ []

-- each status that sessions alone give is that of a session's end
pub record SessionStatuses (asked : Option Asked) (files : Files) (old new : SiteView) (n : ℕ) : Type 0 where
  pub ends : IsOneOf n session_only → SessionEnds asked files old new n
  pub among : (last : End) → IsOneOf (status_of last) settling → EndsAs asked files last old new
      → IsOneOf n (status_of last ∷ stands_for asked old new (status_of last))

-- all of them, of a command that opens no file of the disk
pub record Statuses (asked : Option Asked) (files : Files) (old new : SiteView) (n : ℕ) : Type 0 where
  pub of_files : FileStatuses asked files n
  pub told : ToldStatuses asked files old new n
