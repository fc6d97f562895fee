use Rattle.std.proofs.Common.{Bool, cond, Some, ◌==◌, ◌&&◌, ap, ◌∙◌}
use Rattle.slpf_rules_acts.specs.Index.{Places, place_in}
use Rattle.slpf_rules_acts.proofs.IndexLemmas.{same_key}
use Rattle.slpf_rules_acts.proofs.index.ActIndex.insert.Goals as goal

pub returns-clause-ok : goal.returns-clause-ok
returns-clause-ok c = λ r i.
    c.in_ok-insert.ensures.updates.0 (r, i)
    ∙ ap (λ (b : Bool). cond b (Some c.args.place) (place_in c.self.inside.places.entries r i)) (same_key c.args.run c.args.issue r i)
    ∙ ap (λ (places : Places). cond (c.args.run == r && c.args.issue == i) (Some c.args.place) (place_in places r i)) c.self.view_is
