use Rattle.std.proofs.Common.{◌∙◌, Some, sym, ap}
use Rattle.std.proofs.lemmas.Slice.Eq.{bytes_eq-Decides}
use Rattle.flow_core_rules.proofs.RunLemmas.{some_inner}
use Rattle.flow_engine_history.proofs.opening.has_at.Goals as goal

pub returns-in-Some : goal.returns-in-Some
returns-in-Some c =
    let same = bytes_eq-Decides c.in-Some.found.now c.args.text.now in (
      λ t. sym c.in-Some.ensures ∙ ap Some (same.0 (sym c.eq.ensures ∙ t)),
      λ h. c.eq.ensures ∙ same.1 (some_inner c.in-Some.found.now c.args.text.now (c.in-Some.ensures ∙ h)),
    )

pub returns-in-None : goal.returns-in-None
returns-in-None c = (
  λ t. absurd (cc),
  λ h. let e = c.in-None.ensures ∙ h in absurd (cc),
)
