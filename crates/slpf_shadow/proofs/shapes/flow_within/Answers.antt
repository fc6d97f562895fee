use Rattle.std.proofs.Common.{◌≡◌, sym, ap₂, subst, ◌∙◌}
use Rattle.slpf_shadow.specs.Shapes.{shape_within, flow_within}
use Rattle.slpf_shadow.specs.Ranges.{IsInRange}
use Rattle.slpf_shadow.proofs.FlowLemmas.{flow_within-sound, flow_within-complete}
use Rattle.slpf_shadow.proofs.shapes.flow_within.Goals as goal

pub returns : goal.returns
returns c =
    let inner = c.args.inner.now in
    let outer = c.args.outer.now in
    let is : c.is_within.result ≡ flow_within inner outer = c.is_within.ensures ∙ ap₂ shape_within c.of.ensures.value c.of-2.ensures.value in
    let range = subst IsInRange c.of.ensures.value c.of.ensures.fits in
    (λ within. flow_within-sound inner outer (sym is ∙ within), λ h. is ∙ flow_within-complete inner outer range h)
