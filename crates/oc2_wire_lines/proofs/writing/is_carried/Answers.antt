use Rattle.std.proofs.Common.{◌≡◌, arith, sym, ap, ◌∙◌}
use Rattle.oc2_wire_lines.specs.LineReading.{is_text}
use Rattle.oc2_wire_lines.proofs.LineLemmas.{text_from, is_text_from}
use Rattle.oc2_wire_lines.proofs.writing.is_carried.Goals as goal

pub returns : goal.returns
returns c =
    let fit = c.if-not-issue.false in
    let agent = c.is_between-agent.ensures.0 fit.0 in
    let run = c.is_between-run.ensures.0 fit.1 in
    let issue = c.is_between-issue.ensures.0 fit.2 in
    let same : is_text c.as_slice.result.now ≡ is_text c.args.parcel.now.bytes = ap is_text c.as_slice.ensures in (
      λ yes.
          let text = text_from c.args.parcel.now.bytes (sym same ∙ sym c.is_text.ensures ∙ yes) in
          record {
            agent_low = omega (arith, agent.0, c.from.ensures);
            agent_high = omega (arith, agent.1, c.from.ensures);
            run_low = run.0;
            run_high = run.1;
            issue_high = omega (arith, issue.1, c.from-2.ensures);
            short = text.0;
            one_line = text.1;
          },
      λ carried. c.is_text.ensures ∙ same ∙ is_text_from c.args.parcel.now.bytes carried.short carried.one_line,
    )
