-- Promise: How playbooks are read of which something is told.
use Rattle.std.specs.Prelude.{◌≡◌, nat_lt, Bool, true, false, List, [], length, map, Result, Ok, Err, if◌then◌else◌}
use Rattle.cacao_cli_ends.specs.Ends.{End, past}
use Rattle.cacao_cli_ends.specs.Files.{File, NamedText, ReadsTo, ShelfCall, book_file}
use Rattle.cacao_cli_ends.specs.declared.limit.Limit.TheVariants.{BookCount}
use Rattle.cacao_view_words.specs.Texts.{Text}

-- more playbooks than the limit
abbrev pub are_too_many : List Text → Bool
are_too_many books = nat_lt 16 (length books)

-- the files of these names are read, unless the playbooks are too many
abbrev pub book_files : List Text → List Text → List File
book_files books names = if are_too_many books then [] else map book_file names

-- too many playbooks, a file that gave no bytes, or what the texts come to
abbrev pub ReadsOf : (List NamedText → List Text → End → Type 0) → Bool → Result (List NamedText) End → List Text → End → Type 0
ReadsOf Comes true read lines end = (lines ≡ []) × (end ≡ past BookCount)
ReadsOf Comes false (Err why) lines end = (lines ≡ []) × (end ≡ why)
ReadsOf Comes false (Ok texts) lines end = Comes texts lines end

-- the files of these names were read, and this is what is told
pub record ReadsBooks (Comes : List NamedText → List Text → End → Type 0) (books names : List Text) (shelf : ShelfCall) (lines : List Text) (end : End) : Type 0 where
  pub read : Result (List NamedText) End
  pub reads : ReadsTo shelf (book_files books names) read
  pub comes : ReadsOf Comes (are_too_many books) read lines end
