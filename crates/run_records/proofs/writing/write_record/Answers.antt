use Rattle.std.proofs.Common.{ap, ◌∙◌}
use Rattle.run_records.specs.Reading.{record_of}
use Rattle.run_records.proofs.ReadLemmas.{record_again}
use Rattle.run_records.proofs.writing.write_record.Goals as goal

pub returns-clause-back : goal.returns-clause-back
returns-clause-back c =
    let written = rw c.new-out.ensures.items at c.in_ok-put_record.ensures in
    ap record_of (c.from_vec.ensures ∙ written) ∙ record_again c.args.item.now c.requires
