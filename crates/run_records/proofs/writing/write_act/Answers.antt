use Rattle.std.proofs.Common.{ap, ◌∙◌}
use Rattle.run_records.specs.Reading.{act_of}
use Rattle.run_records.proofs.ReadLemmas.{act_again}
use Rattle.run_records.proofs.writing.write_act.Goals as goal

pub returns-clause-back : goal.returns-clause-back
returns-clause-back c =
    let written = rw c.new-out.ensures.items at c.in_ok-put_act.ensures in
    ap act_of (c.from_vec.ensures ∙ written) ∙ act_again c.args.act.now c.requires
