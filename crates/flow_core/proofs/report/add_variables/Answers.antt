use Rattle.std.proofs.Common.{[], ◌∷◌, ◌++◌, codes, sym, ap, ◌∙◌, append_assoc, append-nil}
use Rattle.flow_core_rules.specs.Lines.{line_from, maybe_text, variable_lines}
use Rattle.flow_core.proofs.report.add_variables.Goals as goal

pub loop-name-preserved : goal.loop-name-preserved
loop-name-preserved c =
    let old = c.loop-name.out.items in
    let left = variable_lines c.next.new.self in
    ap (λ xs. xs ++ left) c.in_ok-add_variable.ensures ∙ append_assoc old (line_from (codes "var") (c.in-Some.name.now ∷ maybe_text c.in-Some.text.now ∷ [])) left
    ∙ ap (λ es. old ++ variable_lines es) (sym c.in-Some.ensures.steps) ∙ c.loop-name.invariant

pub returns : goal.returns
returns c =
    let old = c.loop-name.out.items in
    sym (append-nil old) ∙ ap (λ es. old ++ variable_lines es) (sym c.in-None.ensures.steps.0) ∙ c.loop-name.invariant
