use Rattle.std.proofs.Common.{arith}
use Rattle.slpf_rules.specs.Replies.{reply}
use Rattle.oc2_msg.proofs.ResponseLemmas.{responses_read_back}
use Rattle.slpf_rules.proofs.ReplyRanges.{reply_fits}
use Rattle.slpf_rules.proofs.ReplyLengths.{response_is_short}
use Rattle.slpf_rules.proofs.laws.replies_are_final.Goals as goal

pub returns : goal.returns
returns c = λ rules bytes moment.
    let response = (reply rules bytes moment).0 in
    let fits = reply_fits rules bytes moment in
    record {
      reads_back = responses_read_back response (record { status_known = fits.0.0; rule_fits = omega (arith, fits.1) });
      known = fits.0.0;
      final = fits.0.1;
      short = response_is_short response (omega (arith, fits.0.2)) (omega (arith, fits.1));
    }
