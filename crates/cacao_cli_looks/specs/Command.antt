-- Scaffold: What the code of the commands reads and judges, as the definitions have it.
use Rattle.std.specs.Prelude.{◌≡◌, ◌⊎◌, ℕ, Some, List, [], ◌∷◌, map, Vec, Result, Ok, Err}
use Rattle.std.specs.declared.alloc.Global.{Global}
use Rattle.serde_json.specs.Data.{Data}
use Rattle.cacao_check.specs.FirstBreak.{IsAccepted, IsFirstBreak}
use Rattle.cacao_check.specs.declared.breaks.Break.{Break}
use Rattle.cacao_check.specs.declared.breaks.CheckError.{CheckError}
use Rattle.cacao_check.specs.declared.breaks.CheckError.TheVariants as check_error
use Rattle.cacao_check.specs.declared.breaks.Mode.{Mode}
use Rattle.cacao_json.specs.Tree.{data_of}
use Rattle.cacao_json.specs.declared.tree.Tree.{Tree}
use Rattle.oc2_nets.specs.declared.packets.Packet.{Packet}
use Rattle.run_journal.specs.declared.error.JournalError.{JournalError}
use Rattle.run_journal.specs.declared.error.JournalError.TheVariants as journal_error
use Rattle.flow_engine_reports.specs.declared.error.ReportError.{ReportError}
use Rattle.flow_engine_reports.specs.declared.error.ReportError.TheVariants as report_error
use Rattle.slpf_actuator.specs.declared.error.ActError.{ActError}
use Rattle.slpf_actuator.specs.declared.error.ActError.TheVariants as act_error
use Rattle.cacao_cli_filters.specs.PacketFiles.{packets_of}
use Rattle.cacao_cli_words.specs.Words.{Text}
use Rattle.cacao_cli_ends.specs.Asked.{audits}
use Rattle.cacao_cli_ends.specs.Ends as as_said
use Rattle.cacao_cli_ends.specs.Files.{NamedText, ReadsTo, ShelfCall, files_of, named}
use Rattle.cacao_cli_ends.specs.Work.{packets_or_end, run_files, tree_of, trees_of}
use Rattle.cacao_cli_ends.specs.declared.end.End.{End}
use Rattle.cacao_cli_looks.specs.declared.file_text.FileText.{FileText}
use Rattle.cacao_cli_ends.specs.declared.limit.Limit.TheVariants.{TaskCount}
use Rattle.cacao_cli_ends.specs.Told.{end_of}

-- a file that was read, as its text
abbrev pub text_of : FileText → NamedText
text_of text = named text.name.now text.bytes

-- what the read of one file gave, and of several, as what reading comes to
abbrev pub read_of : Result FileText End → Result (List NamedText) as_said.End
read_of (Ok text) = Ok (text_of text ∷ [])
read_of (Err end) = Err (end_of end)

-- what the read of the bytes of one file gave, as what reading comes to
abbrev pub bytes_read : Text → Result Text End → Result (List NamedText) as_said.End
bytes_read name (Ok bytes) = Ok (named name bytes ∷ [])
bytes_read name (Err end) = Err (end_of end)

-- The files of a run were read, and each stands at its number; or one gave none, and the end tells why.
abbrev pub ReadsRun : ShelfCall → Text → List (ℕ × Text) → Result (List Text) End → Type 0
ReadsRun shelf engine filters (Ok files) =
    (texts : List NamedText) × ReadsTo shelf (files_of (Some (audits engine filters))) (Ok texts)
    × (files ≡ run_files filters texts)
ReadsRun shelf engine filters (Err end) = ReadsTo shelf (files_of (Some (audits engine filters))) (Err (end_of end))

abbrev pub reads_of : Result (Vec FileText Global) End → Result (List NamedText) as_said.End
reads_of (Ok texts) = Ok (map text_of texts.items)
reads_of (Err end) = Err (end_of end)

-- the tree of the text, or why it has none; or memory was wanted
abbrev pub IsTreeOrMemory : NamedText → Result Tree End → Type 0
IsTreeOrMemory text (Ok tree) = tree_of text ≡ Ok (data_of tree)
IsTreeOrMemory text (Err end) = (tree_of text ≡ Err (end_of end)) ⊎ (end_of end ≡ as_said.no_memory)

-- the packets of the text, or which line is none; or memory was wanted
abbrev pub ArePacketsOrMemory : NamedText → Result (Vec (ℕ × Packet) Global) End → Type 0
ArePacketsOrMemory text (Ok packets) = packets_or_end text.name (packets_of text.bytes) ≡ Ok packets.items
ArePacketsOrMemory text (Err end) =
    (packets_or_end text.name (packets_of text.bytes) ≡ Err (end_of end)) ⊎ (end_of end ≡ as_said.no_memory)

-- how a call ends where the file of this agent was not opened
abbrev pub open_end : ℕ → ActError → as_said.End
open_end agent act_error.Disk = as_said.disk_failed
open_end agent (act_error.Damaged place) = as_said.damaged agent place
open_end agent (act_error.Full length) = as_said.no_memory
open_end agent act_error.Broken = as_said.no_memory
open_end agent act_error.Memory = as_said.no_memory

-- and where the engine's file was not opened, or nothing can be said of its entries
abbrev pub journal_end : JournalError → as_said.End
journal_end journal_error.Disk = as_said.disk_failed
journal_end (journal_error.Damaged place) = as_said.damaged 0 place
journal_end (journal_error.Full needed) = as_said.no_memory
journal_end journal_error.Broken = as_said.no_memory
journal_end journal_error.Memory = as_said.no_memory

abbrev pub report_end : ReportError → as_said.End
report_end (report_error.Damaged place) = as_said.damaged 0 place
report_end report_error.TooManyTasks = as_said.past TaskCount
report_end report_error.Memory = as_said.no_memory

-- the trees of the texts, or why the first has none; or memory was wanted
abbrev pub AreTreesOrMemory : List NamedText → Result (Vec Tree Global) End → Type 0
AreTreesOrMemory texts (Ok trees) = trees_of texts ≡ Ok (map data_of trees.items)
AreTreesOrMemory texts (Err end) = (trees_of texts ≡ Err (end_of end)) ⊎ (end_of end ≡ as_said.no_memory)

-- the playbooks are accepted, or this is their first break; or memory was wanted
abbrev pub IsJudgement : List Data → Mode → as_said.End → Type 0
IsJudgement trees mode end =
    (IsAccepted trees mode × (end ≡ as_said.accepted))
    ⊎ (((broken : Break) × IsFirstBreak trees mode broken × (end ≡ as_said.refused broken)) ⊎ (end ≡ as_said.no_memory))

abbrev pub IsJudgedOrMemory : List Data → Mode → End → Type 0
IsJudgedOrMemory trees mode end = IsJudgement trees mode (end_of end)

-- how a call ends where playbooks are refused
abbrev pub refusal_end : CheckError → as_said.End
refusal_end (check_error.Broken broken) = as_said.refused broken
refusal_end check_error.Memory = as_said.no_memory
