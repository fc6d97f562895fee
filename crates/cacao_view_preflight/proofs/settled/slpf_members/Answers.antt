use Rattle.std.proofs.Common.{◌∙◌, ap, codes}
use Rattle.serde_json.specs.Data.{string}
use Rattle.oc2_msg_targets.specs.Parts.{whole_data}
use Rattle.cacao_view_preflight.specs.Settled.{settled}
use Rattle.cacao_view_preflight.proofs.settled.slpf_members.Goals as goal

pub returns : goal.returns
returns c =
    c.in_ok-settle_number.ensures
    ∙ ap (settled (codes "insert_rule") (whole_data 1))
    (c.in_ok-settle_text-2.ensures ∙ ap (settled (codes "direction") (string (codes "both"))) c.in_ok-settle_text.ensures)
