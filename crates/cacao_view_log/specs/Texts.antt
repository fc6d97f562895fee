-- Promise: What is told of a record: the line that its session said, or its object.
use Rattle.std.specs.Prelude.{ℕ, List}
use Rattle.run_records.specs.declared.record.Record.{Record}
use Rattle.flow_core_rules.specs.Lines.{record_line}
use Rattle.flow_core_rules.specs.State.{Shown}
use Rattle.cacao_view_log.specs.Objects.{object_line}
use Rattle.cacao_view_log.specs.declared.form.Form.{Form}
use Rattle.cacao_view_log.specs.declared.form.Form.TheVariants as form
use Rattle.cacao_view_log.specs.declared.sender.Sender.{Sender}

-- of the record with this number in the run of this number, by what was shown before it and who had sent and asked
abbrev pub record_text : Form → ℕ → Shown → List Sender → ℕ → Record → List ℕ
record_text form.Line run before sent n r = record_line before n r
record_text form.Object run before sent n r = object_line run before sent n r
