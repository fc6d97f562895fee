-- Promise: The named files that a command reads, in order, and what reading them comes to.
use Rattle.std.proofs.Common.{zero, suc}
use Rattle.std.specs.Prelude.{◌≡◌, ℕ, ◌<◌, ◌≤◌, ◌==◌, nat_lt, nat_le, length, map, Bool, List, [], ◌∷◌, ◌++◌, Option, Some, None}
use Rattle.std.specs.Prelude.{Result, Ok, Err, IfSome, IsSomeAnd, ⊤, if◌then◌else◌}
use Rattle.cacao_site.specs.Counts.{next_count}
use Rattle.cacao_cli_words.specs.Requests.{RunRequest}
use Rattle.cacao_cli_words.specs.Words.{Text}
use Rattle.cacao_cli_ends.specs.Asked.{Asked, canonises, checks, shows, lists_rules, decides, shadows, rehearses, audits, runs}
use Rattle.cacao_cli_ends.specs.Ends.{End, most, status_of, past, shelf_failed, no_such_file, no_memory}
use Rattle.cacao_cli_ends.specs.declared.limit.Limit.{Limit}
use Rattle.cacao_cli_ends.specs.declared.limit.Limit.TheVariants.{FileBytes, JournalBytes}

-- a file that is read: its name, and the limit on its bytes
pub record File : Type 0 where
  pub name : Text
  pub limit : Limit

abbrev pub file_within : Text → Limit → File
file_within name limit = record { name = name; limit = limit }

abbrev pub book_file : Text → File
book_file name = file_within name FileBytes

abbrev pub packet_file : Text → File
packet_file name = file_within name FileBytes

abbrev pub journal_file : Text → File
journal_file name = file_within name JournalBytes

-- the playbooks that the words name
abbrev pub books_of : Asked → List Text
books_of (canonises book) = book ∷ []
books_of (checks books) = books
books_of (runs wanted) = wanted.books
books_of shows = []
books_of (lists_rules agent) = []
books_of (decides agent packets) = []
books_of (shadows agent) = []
books_of (rehearses positions) = []
books_of (audits engine filters) = []

-- more playbooks than the limit: then no file is read
abbrev pub has_too_many : Asked → Bool
has_too_many asked = nat_lt 16 (length (books_of asked))

-- what is named, if it is
abbrev pub listed : Option Text → List Text
listed None = []
listed (Some name) = name ∷ []

-- the files of `run`: those of the playbooks, that of bindings and that of answers
abbrev pub run_names : RunRequest → List Text
run_names wanted = wanted.books ++ (listed wanted.bind ++ listed wanted.answers)

abbrev pub named_by : Asked → List File
named_by (canonises book) = book_file book ∷ []
named_by (checks books) = map book_file books
named_by (runs wanted) = map book_file (run_names wanted)
named_by shows = []
named_by (lists_rules agent) = []
named_by (decides agent packets) = packet_file packets ∷ []
named_by (shadows agent) = []
named_by (rehearses positions) = []
named_by (audits engine filters) = journal_file engine ∷ map (λ filter. journal_file filter.1) filters

-- the files to be read, in order
abbrev pub files_of : Option Asked → List File
files_of None = []
files_of (Some asked) = if has_too_many asked then [] else named_by asked

-- the bytes that each name holds
abbrev pub Files : Type 0
Files = Text → Option Text

-- What a shelf tells of a call: its files, its counts of faults before and after, and its counts of reads.
pub record ShelfCall : Type 0 where
  pub told : Option Files
  pub before : ℕ
  pub after : ℕ
  pub reads_before : Option ℕ
  pub reads_after : Option ℕ

abbrev pub shelf_call : Option Files → ℕ → ℕ → Option ℕ → Option ℕ → ShelfCall
shelf_call told before after reads_before reads_after =
    record { told = told; before = before; after = after; reads_before = reads_before; reads_after = reads_after }

-- what a read gives of a file
pub data Content : Type 0 where
  whole : (bytes : Text) → Content
  missing : Content
  too_long : Content
  failed : Content
  no_room : Content  -- memory was wanted

-- a read of the file may give this; what the file holds is said where the shelf tells its files
abbrev pub Gives : Option Files → File → Content → Type 0
Gives told file (whole bytes) = (length bytes ≤ most file.limit) × IfSome told (λ files. files file.name ≡ Some bytes)
Gives told file missing = IfSome told (λ files. files file.name ≡ None)
Gives told file too_long = IfSome told (λ files. IsSomeAnd (files file.name) (λ bytes. most file.limit < length bytes))
Gives told file failed = ⊤
Gives told file no_room = ⊤

-- the bytes of a file that was read, with its name
pub record NamedText : Type 0 where
  pub name : Text
  pub bytes : Text

abbrev pub named : Text → Text → NamedText
named name bytes = record { name = name; bytes = bytes }

-- the bytes, or the end that the file puts to the command
abbrev pub text_in : File → Content → Result NamedText End
text_in file (whole bytes) = Ok (named file.name bytes)
text_in file missing = Err (no_such_file file.name)
text_in file too_long = Err (past file.limit)
text_in file failed = Err (shelf_failed file.name)
text_in file no_room = Err no_memory

-- an item before others, or the first end
abbrev pub item_then : {A : Type 0} → Result A End → Result (List A) End → Result (List A) End
item_then (Err end) items = Err end
item_then (Ok item) (Err end) = Err end
item_then (Ok item) (Ok items) = Ok (item ∷ items)

-- The files were read in order, one read each, up to the first that gave no bytes: so many reads, and what they come to.
pub data Reads (told : Option Files) : List File → ℕ → Result (List NamedText) End → Type 0 where
  all_read : Reads told [] 0 (Ok [])
  wants_memory : (file : File) (behind : List File) → Reads told (file ∷ behind) 0 (Err no_memory)
  stops : (file : File) (behind : List File) (content : Content) (end : End) → Gives told file content
      → text_in file content ≡ Err end
      → Reads told (file ∷ behind) 1 (Err end)
  goes_on : (file : File) (behind : List File) (bytes : Text) (count : ℕ) (read : Result (List NamedText) End)
      → Gives told file (whole bytes)
      → Reads told behind count read → Reads told (file ∷ behind) (suc count) (item_then (Ok (named file.name bytes)) read)

-- a count after so many more, one by one
abbrev pub counted : ℕ → ℕ → ℕ
counted zero count = count
counted (suc n) count = next_count (counted n count)

-- so many reads were counted, where the shelf tells them
abbrev pub Counts : Option ℕ → ℕ → Option ℕ → Type 0
Counts (Some old) n (Some new) = new ≡ counted n old
Counts None n None = Unit {0}
Counts (Some old) n None = ⊥
Counts None n (Some new) = ⊥

-- the count of faults behind the reads: one more exactly where a read failed
abbrev pub faults_behind : ℕ → Result (List NamedText) End → ℕ
faults_behind before (Ok texts) = before
faults_behind before (Err end) = if status_of end == 3 then next_count before else before

-- what reading the files came to
pub record ReadsTo (shelf : ShelfCall) (files : List File) (read : Result (List NamedText) End) : Type 0 where
  pub count : ℕ
  pub reads : Reads shelf.told files count read
  pub counted : Counts shelf.reads_before count shelf.reads_after
  pub faults : shelf.after ≡ faults_behind shelf.before read

-- what a read gives where no call fails
abbrev pub content_in : Limit → Option Text → Content
content_in limit None = missing
content_in limit (Some bytes) = if nat_le (length bytes) (most limit) then whole bytes else too_long

-- what reading the files comes to where no call fails
abbrev pub reading : Files → List File → Result (List NamedText) End
reading files [] = Ok []
reading files (file ∷ more) = item_then (text_in file (content_in file.limit (files file.name))) (reading files more)
