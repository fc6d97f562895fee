use Rattle.std.proofs.Common.{◌≡◌, ◌∙◌, sym, subst, ap}
use Rattle.oc2_msg.specs.declared.responses.Response.{Response}
use Rattle.oc2_msg.specs.Ranges.{IsStatus}
use Rattle.slpf_rules.specs.Replies.{reply, reply_to}
use Rattle.slpf_actuator_acts.proofs.answering.answer.Goals as goal

pub write_response-requires : goal.write_response-requires
write_response-requires c =
    let table = c.args.table.now in
    let is : c.in_ok-response.response ≡ (reply table c.args.command.now 0).0 =
    c.in_ok-response.ensures 0 ∙ ap (λ asked. (reply_to table 0 asked).0) c.in_ok-asked.ensures.asked in
    subst (λ (r : Response). IsStatus r.status) (sym is) (c.replies_are_final.ensures table c.args.command.now 0).known
