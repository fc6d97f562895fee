use Rattle.std.proofs.Common.{◌≡◌, Some, ap, ◌∙◌}
use Rattle.cacao_json.specs.Tree.{data_of}
use Rattle.cacao_text.specs.Canon.{canon}
use Rattle.oc2_msg.specs.Reasons.{reason_text}
use Rattle.oc2_msg.specs.Responses.{response_object, answer}
use Rattle.oc2_msg_targets.proofs.PutLemmas.{holds_if_ok}
use Rattle.oc2_msg.proofs.ResponseLemmas.{responses_read_back}
use Rattle.oc2_msg.proofs.response_writing.write_response.Goals as goal

pub returns-clause-back : goal.returns-clause-back
returns-clause-back c =
    let r = c.args.response.now in
    holds_if_ok c.canonical.result (canon (data_of c.in_ok-tree.tree))
    (λ t. answer t ≡ Some (record { status = r.status; rule = r.rule; text = reason_text r.text })) c.canonical.ensures
    (ap (λ d. answer (canon d)) (c.in_ok-tree.ensures ∙ ap (λ o. response_object o r.status r.text) c.in_ok-results.ensures.value)
    ∙ responses_read_back r (record { status_known = c.requires; rule_fits = c.in_ok-results.ensures.small }))
