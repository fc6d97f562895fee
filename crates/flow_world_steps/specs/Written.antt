-- Promise: How many bytes a session writes.
use Rattle.std.specs.Prelude.{ℕ, ◌+◌, ◌≤◌, length}
use Rattle.std.specs.Option.{option_map_or}
use Rattle.run_journal.specs.Durable.{header_bytes}
use Rattle.run_records.specs.Layout.{act_layout, layout}
use Rattle.run_records.specs.declared.record.Record.{Record}
use Rattle.run_records.specs.declared.act.Act.{Act}
use Rattle.slpf_actuator.specs.ActuatorView.{ActuatorView}
use Rattle.flow_world_steps.specs.Ready.{FiltersStand, JournalStands}
use Rattle.flow_world_steps.specs.Steps.{Steps}
use Rattle.flow_world_steps.specs.Sums.{if_going, total}
use Rattle.flow_world_steps.specs.Worlds.{Notes, World}

-- what an entry adds to its file, with its gates
abbrev pub record_bytes : Record → ℕ
record_bytes r = length (layout r) + 6

abbrev pub act_bytes : ℕ × Act → ℕ
act_bytes e = length (act_layout e.1) + 6

-- the acts that were appended, and the record and the act that may have been
abbrev pub noted_bytes : Notes → ℕ
noted_bytes notes =
    option_map_or record_bytes notes.unsure 0 + total act_bytes notes.acted + option_map_or act_bytes notes.unsure_act 0

-- with all records of the journal
abbrev pub entry_bytes : World → ℕ
entry_bytes w = total record_bytes w.engine.history.records + noted_bytes w.notes

-- the bytes that headers may still take, of the journal and of the filters' files
abbrev pub header_bytes_left : World → ℕ
header_bytes_left w = header_bytes w.engine.history.prepared + total (λ (v : ActuatorView). header_bytes v.prepared) w.filters

-- Bytes handed to the disk: those of each entry that was appended, or may have been, and nine for each header.
pub record WritesFew (a b : World) : Type 0 where
  pub written : b.site.disk.written + if_going b.phase (header_bytes_left b) + entry_bytes a
      ≤ a.site.disk.written + if_going a.phase (header_bytes_left a) + entry_bytes b

abbrev pub EachWritesFew : Type 0
EachWritesFew = (a b : World) → JournalStands a → FiltersStand a → Steps a b → WritesFew a b
