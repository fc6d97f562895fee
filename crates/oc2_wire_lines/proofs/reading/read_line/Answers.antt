use Rattle.std.proofs.Common.{List, ℕ, None, Option, Some, sym, ap, ◌∙◌}
use Rattle.cacao_site.specs.declared.parcel.Parcel.{Parcel}
use Rattle.oc2_wire_lines.proofs.LineLemmas.{read_by}
use Rattle.oc2_wire_lines.proofs.reading.read_line.Goals as goal

pub returns-in_default : goal.returns-in_default
returns-in_default c = read_by c.args.back c.args.line.now None (sym c.in_default.ensures)

pub returns : goal.returns
returns c =
    let made : List ℕ → Option Parcel = λ bytes. Some (record { agent = c.in-Some.fields.agent; back = c.args.back; run = c.in-Some.fields.run; issue = c.in-Some.fields.issue; bytes = bytes }) in
    read_by c.args.back c.args.line.now (made c.in_ok-bytes.bytes) (sym c.in-Some.ensures ∙ ap made (sym c.in_ok-bytes.ensures))
