use Rattle.std.proofs.Common.{Bool, cond, None, ◌==◌, ◌&&◌, ap, ◌∙◌}
use Rattle.slpf_rules_acts.specs.Index.{Places, place_in}
use Rattle.slpf_rules_acts.proofs.IndexLemmas.{same_key}
use Rattle.slpf_rules_acts.proofs.index.ActIndex.remove.Goals as goal

pub returns : goal.returns
returns c = λ r i.
    c.remove.ensures.updates.0 (r, i)
    ∙ ap (λ (b : Bool). cond b None (place_in c.self.inside.places.entries r i)) (same_key c.args.run c.args.issue r i)
    ∙ ap (λ (places : Places). cond (c.args.run == r && c.args.issue == i) None (place_in places r i)) c.self.view_is
