use Rattle.std.proofs.Common.{◌∙◌, ap, codes}
use Rattle.serde_json.specs.Data.{string}
use Rattle.oc2_msg_targets.specs.Parts.{whole_data}
use Rattle.cacao_view_preflight.specs.Settled.{settled}
use Rattle.cacao_view_preflight.proofs.settled.connection_members.Goals as goal

pub returns : goal.returns
returns c =
    c.in_ok-settle_number-2.ensures
    ∙ ap (settled (codes "dst_port") (whole_data 0))
    (c.in_ok-settle_number.ensures
    ∙ ap (settled (codes "src_port") (whole_data 0))
    (c.in_ok-settle_text-3.ensures
    ∙ ap (settled (codes "dst_addr") (string c.args.net.now))
    (c.in_ok-settle_text-2.ensures ∙ ap (settled (codes "src_addr") (string c.args.net.now)) c.in_ok-settle_text.ensures)))
