use Rattle.std.proofs.Common.{List, [], ◌∷◌, codes, refl, ap, ◌∙◌}
use Rattle.oc2_msg_targets.specs.declared.features.Feature.TheVariants as feature
use Rattle.oc2_msg_targets.specs.Parts.{unless_empty}
use Rattle.oc2_msg.specs.Responses.{value_part, rule_part}
use Rattle.oc2_msg_targets.proofs.PresentLemmas.{Part}
use Rattle.oc2_msg_targets.proofs.PutLemmas.{one_more}
use Rattle.oc2_msg.proofs.response_writing.results_part.Goals as goal

pub returns-clause-value : goal.returns-clause-value
returns-clause-value c =
    let asked = value_part c.args.features.now in
    let list_a : List Part = (codes "versions", asked feature.Versions) ∷ [] in
    let a = one_more (codes "versions") (asked feature.Versions) (asked feature.Versions) [] _ _ c.in_ok-put_value.ensures refl c.new-results.ensures tt in
    let bs : List Part = (codes "slpf", rule_part c.args.rule) ∷ list_a in
    let b = one_more (codes "slpf") _ (rule_part c.args.rule) list_a _ _ c.in_ok-put.ensures c.in_ok-slpf.ensures a (refl, tt) in
    let ds : List Part = (codes "rate_limit", asked feature.RateLimit) ∷ bs in
    let d = one_more (codes "rate_limit") (asked feature.RateLimit) (asked feature.RateLimit) bs _ _ c.in_ok-put_value-2.ensures refl b (refl, (refl, tt)) in
    let es : List Part = (codes "profiles", asked feature.Profiles) ∷ ds in
    let e = one_more (codes "profiles") (asked feature.Profiles) (asked feature.Profiles) ds _ _ c.in_ok-put_value-3.ensures refl d (refl, (refl, (refl, tt))) in
    let f = one_more (codes "pairs") (asked feature.Pairs) (asked feature.Pairs) es _ _ c.in_ok-put_value-4.ensures refl e (refl, (refl, (refl, (refl, tt)))) in
    c.unless_empty.ensures ∙ ap unless_empty f
