use Rattle.std.proofs.Common.{◌∙◌, ap, codes}
use Rattle.oc2_msg_targets.specs.Parts.{whole_data}
use Rattle.cacao_view_preflight.specs.Settled.{changed, in_object, settled, slpf_members}
use Rattle.cacao_view_preflight.proofs.settled.args_members.Goals as goal

pub returns : goal.returns
returns c =
    c.in_ok-settle_slpf.ensures
    ∙ ap (changed (codes "slpf") (in_object slpf_members))
    (c.in_ok-settle_number-3.ensures
    ∙ ap (settled (codes "stop_time") (whole_data 9_007_199_254_740_991))
    (c.in_ok-settle_number-2.ensures
    ∙ ap (settled (codes "duration") (whole_data 0))
    (c.in_ok-settle_number.ensures ∙ ap (settled (codes "start_time") (whole_data 0)) c.remove.ensures.others)))
