-- Promise: Which status comes of words that tell of playbooks, and why.
use Rattle.std.specs.Prelude.{◌≡◌, ◌⊎◌, ℕ, List, Option}
use Rattle.cacao_cli_ends.specs.Comes.{IfFilesTold, IsOneOf, file_faults}
use Rattle.cacao_cli_ends.specs.Ends.{End, status_of}
use Rattle.cacao_cli_ends.specs.Files.{Files, NamedText, reading}
use Rattle.cacao_view_words.specs.Texts.{Text}
use Rattle.cacao_view.specs.BookReading.{ReadsOf, are_too_many, book_files}

-- The end to which these files come, where no read fails and no memory is wanted, has this status: of too many playbooks, of the first file
-- that is not there or too long, or that which the texts come to.
pub record HasEnd (Comes : List NamedText → List Text → End → Type 0) (books names : List Text) (files : Files) (answer : ℕ) : Type 0 where
  pub lines : List Text
  pub end : End
  pub comes : ReadsOf Comes (are_too_many books) (reading files (book_files books names)) lines end
  pub status : answer ≡ status_of end

-- where the files are told, the status is that of their end, but for a failure of the shelf, a line that could not be said and want of memory
abbrev pub BookStatus : (List NamedText → List Text → End → Type 0) → List Text → List Text → Option Files → ℕ → Type 0
BookStatus Comes books names told answer =
    IfFilesTold (book_files books names) told (λ files.
    HasEnd Comes books names files answer ⊎ IsOneOf answer (file_faults (book_files books names)))
