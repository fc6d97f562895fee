-- Promise: How a call of the program ends: its exit status, and its last line if it has one.
use Rattle.std.specs.Prelude.{ℕ, Bool, true, false, ◌++◌, codes, decimal, Option, Some, None}
use Rattle.cacao_check.specs.declared.breaks.Break.{Break}
use Rattle.cacao_cli_words.specs.Words.{Text}
use Rattle.cacao_cli_ends.specs.declared.limit.Limit.{Limit}
use Rattle.cacao_cli_ends.specs.declared.limit.Limit.TheVariants.{FileBytes, BookCount, TaskCount, JournalBytes, LastMoment}
use Rattle.cacao_cli_ends.specs.declared.limit.Limit.TheVariants.{CommandBytes, LineBytes}
use Rattle.cacao_cli_ends.specs.declared.reason.Reason.{Reason}
use Rattle.cacao_cli_ends.specs.declared.reason.Reason.TheVariants.{NotJson, RepeatedName, NotWhole, Line}

abbrev pub limit_name : Limit → Text
limit_name FileBytes = codes "file"
limit_name BookCount = codes "books"
limit_name TaskCount = codes "tasks"
limit_name JournalBytes = codes "journal"
limit_name LastMoment = codes "moment"
limit_name CommandBytes = codes "command"
limit_name LineBytes = codes "line"

-- the most that is taken
abbrev pub most : Limit → ℕ
most FileBytes = 1048576
most BookCount = 16
most TaskCount = 1000000
most JournalBytes = 67108864
most LastMoment = 9000000000000000
most CommandBytes = 1048576
most LineBytes = 1048610

abbrev pub limit_text : Limit → Text
limit_text limit = limit_name limit ++ (codes " " ++ decimal (most limit))

-- why a file has no reading
abbrev pub reason_text : Reason → Text
reason_text NotJson = codes "not json"
reason_text (RepeatedName colons members) = codes "repeated name " ++ (decimal colons ++ (codes " " ++ decimal members))
reason_text (NotWhole index) = codes "not whole " ++ decimal index
reason_text (Line number) = codes "line " ++ decimal number

-- the step that a break names
abbrev pub step_text : Option Text → Text
step_text None = codes ""
step_text (Some key) = codes " step " ++ key

-- the rule of a playbook that is broken
abbrev pub break_text : Break → Text
break_text broken = codes "book " ++ (decimal broken.book ++ (step_text broken.step ++ (codes " rule K" ++ decimal broken.rule)))

pub data End : Type 0 where
  done : End  -- all was said before
  accepted : End
  refused : (broken : Break) → End
  bind_refused : (rule : ℕ) → End  -- a rule of bindings is broken
  ended_ok : End
  ended_failed : End
  paused : End
  waiting : (moment : ℕ) → End
  flooded : End
  asked_for : (issue : ℕ) → End  -- the run waits for an operator alone
  other_run : (held asked : ℕ) → End
  other_book : (index : ℕ) → End
  run_used : (agent : ℕ) → End
  not_understood : End
  past : (limit : Limit) → End
  shelf_failed : (name : Text) → End
  no_such_file : (name : Text) → End
  not_readable : (name : Text) (reason : Reason) → End
  agrees : (records acts : ℕ) → End  -- the files of a run agree
  disagrees : (file place : ℕ) → End  -- they do not
  rehearsed : (positions records acts rules : ℕ) → End  -- a rehearsal ended well, and this was counted
  damaged : (file place : ℕ) → End  -- a file of the disk holds nothing that the program wrote
  peers_failed : End  -- a call of the peers failed
  disk_failed : End
  unsaid : End  -- a line could not be said
  no_memory : End

abbrev pub status_of : End → ℕ
status_of done = 0
status_of accepted = 0
status_of (refused broken) = 1
status_of (bind_refused rule) = 1
status_of ended_ok = 0
status_of ended_failed = 6
status_of paused = 7
status_of (waiting moment) = 14
status_of flooded = 15
status_of (asked_for issue) = 16
status_of (other_run held asked) = 12
status_of (other_book index) = 12
status_of (run_used agent) = 12
status_of not_understood = 2
status_of (past limit) = 11
status_of (shelf_failed name) = 3
status_of (no_such_file name) = 4
status_of (not_readable name reason) = 5
status_of (agrees records acts) = 0
status_of (disagrees file place) = 18
status_of (rehearsed positions records acts rules) = 0
status_of (damaged file place) = 13
status_of peers_failed = 17
status_of disk_failed = 8
status_of unsaid = 9
status_of no_memory = 10

-- the last line without its line feed
abbrev pub text_of : End → Option Text
text_of done = None
text_of accepted = Some (codes "accepted")
text_of (refused broken) = Some (codes "refused: " ++ break_text broken)
text_of (bind_refused rule) = Some (codes "refused: bind rule B" ++ decimal rule)
text_of ended_ok = Some (codes "ended ok")
text_of ended_failed = Some (codes "ended failed")
text_of paused = Some (codes "paused")
text_of (waiting moment) = Some (codes "waiting " ++ decimal moment)
text_of flooded = Some (codes "flooded")
text_of (asked_for issue) = Some (codes "asked " ++ decimal issue)
text_of (other_run held asked) = Some (codes "other run " ++ (decimal held ++ (codes " " ++ decimal asked)))
text_of (other_book index) = Some (codes "other playbook " ++ decimal index)
text_of (run_used agent) = Some (codes "run used " ++ decimal agent)
text_of not_understood = Some (codes "words not understood")
text_of (past limit) = Some (codes "limit: " ++ limit_text limit)
text_of (shelf_failed name) = Some (codes "shelf failed: " ++ name)
text_of (no_such_file name) = Some (codes "no such file: " ++ name)
text_of (not_readable name reason) = Some (codes "not readable: " ++ (name ++ (codes " " ++ reason_text reason)))
text_of (agrees records acts) = Some (codes "audit ok " ++ (decimal records ++ (codes " " ++ decimal acts)))
text_of (disagrees file place) = Some (codes "audit no file " ++ (decimal file ++ (codes " place " ++ decimal place)))
text_of (rehearsed positions records acts rules) =
    Some (codes "rehearsed " ++ (decimal positions ++ (codes ": " ++ (decimal records ++ (codes " records, "
    ++ (decimal acts ++ (codes " acts, " ++ (decimal rules ++ codes " rules, ended ok"))))))))
text_of (damaged file place) = Some (codes "damaged: file " ++ (decimal file ++ (codes " place " ++ decimal place)))
text_of peers_failed = Some (codes "peers failed")
text_of disk_failed = Some (codes "disk failed")
text_of unsaid = None
text_of no_memory = None

-- Whether the end tells a fault of the outside. Its line wants no memory behind the call that may fail.
abbrev pub is_fault : End → Bool
is_fault done = false
is_fault accepted = false
is_fault (refused broken) = false
is_fault (bind_refused rule) = false
is_fault ended_ok = false
is_fault ended_failed = false
is_fault paused = false
is_fault (waiting moment) = false
is_fault flooded = false
is_fault (asked_for issue) = false
is_fault (other_run held asked) = false
is_fault (other_book index) = false
is_fault (run_used agent) = false
is_fault not_understood = false
is_fault (past limit) = false
is_fault (shelf_failed name) = true
is_fault (no_such_file name) = false
is_fault (not_readable name reason) = false
is_fault (agrees records acts) = false
is_fault (disagrees file place) = false
is_fault (rehearsed positions records acts rules) = false
is_fault (damaged file place) = false
is_fault peers_failed = true
is_fault disk_failed = true
is_fault unsaid = true
is_fault no_memory = false
