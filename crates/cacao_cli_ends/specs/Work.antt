-- Promise: What a command does, once the words and the files that it reads are known. The tests stand in the order of the statuses.
use Rattle.std.specs.Prelude.{ℕ, List, [], ◌∷◌, ◌++◌, map, replicate, slice_set, length, take, drop, codes, if◌then◌else◌, Option}
use Rattle.std.specs.Prelude.{Some, None, option_to_list, Result, Ok, Err}
use Rattle.serde_json.specs.Data.{Data}
use Rattle.cacao_json.specs.Refusals.{answer}
use Rattle.cacao_json.specs.declared.error.JsonError.{JsonError}
use Rattle.cacao_json.specs.declared.error.JsonError.TheVariants as json
use Rattle.cacao_text.specs.Canon.{book_text}
use Rattle.oc2_nets.specs.declared.packets.Packet.{Packet}
use Rattle.cacao_cli_filters.specs.PacketFiles.{packets_of}
use Rattle.cacao_check.specs.declared.breaks.Mode.{Mode}
use Rattle.cacao_check.specs.declared.breaks.Mode.TheVariants.{Read}
use Rattle.cacao_cli_words.specs.Requests.{RunRequest}
use Rattle.cacao_cli_words.specs.Words.{Text}
use Rattle.cacao_cli_ends.specs.Asked.{Asked, canonises, checks, shows, lists_rules, decides, shadows, rehearses, audits, runs}
use Rattle.cacao_cli_ends.specs.Ends.{End, done, accepted, not_understood, past, not_readable, no_memory}
use Rattle.cacao_cli_ends.specs.Files.{NamedText, item_then, has_too_many}
use Rattle.cacao_cli_ends.specs.declared.limit.Limit.TheVariants.{BookCount}
use Rattle.cacao_cli_ends.specs.declared.reason.Reason.TheVariants.{NotJson, RepeatedName, NotWhole, Line}

-- what is said of a filter
pub data Look : Type 0 where
  at_rules : Look
  at_decisions : (packets : List (ℕ × Packet)) → Look
  at_shadows : Look

-- What a session is given, before it is judged: the run's number, the most records, the texts of the playbooks and of bindings,
-- and the file of answers, if one is named.
pub record Start : Type 0 where
  pub run : ℕ
  pub most : ℕ
  pub books : List Text
  pub bind : Text
  pub answers : Option NamedText

-- What is left to be done where nothing was refused before: to say these lines and end so; to tell the first break of the
-- playbooks with these trees, and where there is none to do this work; to open the filter of an agent and say this of it; to open
-- the engine's file and say how its run stands; to tell whether these files of a run agree; to tell of a rehearsal with so many
-- positions; to hold a session.
pub data Work : Type 0 where
  ends : (lines : List Text) (end : End) → Work
  judges : (trees : List Data) (mode : Mode) (accepted : Work) → Work
  opens_filter : (agent : ℕ) (look : Look) → Work
  opens_run : Work
  compares : (files : List Text) → Work
  rehearsals : (positions : ℕ) → Work
  starts : (start : Start) → Work

-- the tree, or the end that says why there is none
abbrev pub tree_or_end : Text → Result Data JsonError → Result Data End
tree_or_end name (Ok root) = Ok root
tree_or_end name (Err json.NotJson) = Err (not_readable name NotJson)
tree_or_end name (Err (json.RepeatedName colons members)) = Err (not_readable name (RepeatedName colons members))
tree_or_end name (Err (json.NotWhole index)) = Err (not_readable name (NotWhole index))
tree_or_end name (Err json.Memory) = Err no_memory

abbrev pub tree_of : NamedText → Result Data End
tree_of text = tree_or_end text.name (answer text.bytes)

-- the trees of the texts, or the end for the first that has none
abbrev pub trees_of : List NamedText → Result (List Data) End
trees_of [] = Ok []
trees_of (text ∷ texts) = item_then (tree_of text) (trees_of texts)

-- the packets, or the end that tells the first line that is none
abbrev pub packets_or_end : Text → Result (List (ℕ × Packet)) ℕ → Result (List (ℕ × Packet)) End
packets_or_end name (Ok packets) = Ok packets
packets_or_end name (Err number) = Err (not_readable name (Line number))

-- the packets of the one text
abbrev pub packets_in : List NamedText → Result (List (ℕ × Packet)) End
packets_in [] = Ok []
packets_in (text ∷ texts) = packets_or_end text.name (packets_of text.bytes)

-- the end, or the work that the value comes to
abbrev pub or_end : {A : Type 0} → Result A End → (A → Work) → Work
or_end (Err end) work = ends [] end
or_end (Ok value) work = work value

-- the line of `canon`
abbrev pub canon_line : Data → Text
canon_line root = book_text root ++ codes "\n"

-- each text at the place of its number
abbrev pub placed : List Text → List ℕ → List NamedText → List Text
placed files [] texts = files
placed files (number ∷ numbers) [] = files
placed files (number ∷ numbers) (text ∷ texts) = placed (slice_set files number text.bytes) numbers texts

-- The files of a run: file 0 is the engine's, and the others have the numbers of their agents. One that is not named has no
-- bytes.
abbrev pub run_files : List (ℕ × Text) → List NamedText → List Text
run_files filters texts = placed (replicate 17 []) (0 ∷ map (λ filter. filter.0) filters) texts

-- ---- the texts of a run

-- the first text, if it is named, and those behind it
abbrev pub first_if : Option Text → List NamedText → Option NamedText
first_if None texts = None
first_if (Some name) [] = None
first_if (Some name) (text ∷ texts) = Some text

abbrev pub rest_if : Option Text → List NamedText → List NamedText
rest_if None texts = texts
rest_if (Some name) [] = []
rest_if (Some name) (text ∷ texts) = texts

-- the texts of the playbooks, and those behind them: that of bindings, and that of answers
abbrev pub book_texts : RunRequest → List NamedText → List NamedText
book_texts wanted texts = take (length wanted.books) texts

abbrev pub behind_books : RunRequest → List NamedText → List NamedText
behind_books wanted texts = drop (length wanted.books) texts

abbrev pub bind_text : RunRequest → List NamedText → Option NamedText
bind_text wanted texts = first_if wanted.bind (behind_books wanted texts)

abbrev pub answers_text : RunRequest → List NamedText → Option NamedText
answers_text wanted texts = first_if wanted.answers (rest_if wanted.bind (behind_books wanted texts))

-- no text is as an empty one
abbrev pub bytes_of : Option NamedText → Text
bytes_of None = []
bytes_of (Some text) = text.bytes

-- the texts that want a tree
abbrev pub trees_wanted : RunRequest → List NamedText → List NamedText
trees_wanted wanted texts = book_texts wanted texts ++ option_to_list (bind_text wanted texts)

abbrev pub start_of : RunRequest → List NamedText → Start
start_of wanted texts = record {
  run = wanted.run;
  most = wanted.most;
  books = map (λ text. text.bytes) (book_texts wanted texts);
  bind = bytes_of (bind_text wanted texts);
  answers = answers_text wanted texts;
}

-- the work that the texts of its files come to
abbrev pub work_on : Asked → List NamedText → Work
work_on (canonises book) texts = or_end (trees_of texts) (λ roots. ends (map canon_line roots) done)
work_on (checks books) texts = or_end (trees_of texts) (λ roots. judges roots Read (ends [] accepted))
work_on (runs wanted) texts = or_end (trees_of (trees_wanted wanted texts)) (λ roots. starts (start_of wanted texts))
work_on shows texts = opens_run
work_on (lists_rules agent) texts = opens_filter agent at_rules
work_on (decides agent packets) texts = or_end (packets_in texts) (λ found. opens_filter agent (at_decisions found))
work_on (shadows agent) texts = opens_filter agent at_shadows
work_on (rehearses positions) texts = rehearsals positions
work_on (audits engine filters) texts = compares (run_files filters texts)

-- the work that the words and what was read come to
abbrev pub work : Option Asked → Result (List NamedText) End → Work
work None read = ends [] not_understood
work (Some asked) read = if has_too_many asked then ends [] (past BookCount) else or_end read (work_on asked)
