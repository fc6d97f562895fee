-- Promise: What holds of every reply.
use Rattle.std.specs.Prelude.{◌≡◌, ◌≢◌, ◌≤◌, ℕ, List, length, Some}
use Rattle.oc2_msg.specs.declared.responses.Response.{Response}
use Rattle.oc2_msg.specs.Ranges.{IsStatus}
use Rattle.oc2_msg.specs.Reasons.{reason_text}
use Rattle.oc2_msg.specs.Responses.{response_text, answer}
use Rattle.slpf_rules.specs.declared.rules.Rule.{Rule}
use Rattle.slpf_rules.specs.Replies.{reply}

-- a response, as it is written, has at most 1,048,576 bytes and reads back as its status, its rule number and its
-- text; its status is one of those that are known, and final
pub record IsFinal (r : Response) : Type 0 where
  pub reads_back : answer (response_text r) ≡ Some (record { status = r.status; rule = r.rule; text = reason_text r.text })
  pub known : IsStatus r.status
  pub final : r.status ≢ 102
  pub short : length (response_text r) ≤ 1_048_576

abbrev pub RepliesAreFinal : Type 0
RepliesAreFinal = (rules : List Rule) (bytes : List ℕ) (moment : ℕ) → IsFinal (reply rules bytes moment).0
