-- One binding more was looked at.
use Rattle.std.proofs.Common.{◌∙◌, ◌++◌, ap, refl, List, map}
use Rattle.std.specs.Prelude.{not}
use Rattle.cacao_json.specs.Tree.{pair_data}
use Rattle.cacao_view_preflight.specs.Warnings.{Text, binding_line, is_named, names_of, of_bindings, warn_if}
use Rattle.cacao_view_preflight.proofs.EachLemmas.{added_named, named_all}
use Rattle.cacao_view_preflight.proofs.agents.warn_of_bindings.Goals as goal

pub loop-pair-init : goal.loop-pair-init
loop-pair-init c = λ all just. refl

pub loop-pair-preserved : goal.loop-pair-preserved
loop-pair-preserved c = λ all just.
    let make : Text → List Text = λ name. warn_if (not (is_named all name)) (binding_line name) in
    added_named pair_data make c.args.bound.now c.loop-pair.pair-index c.pair-item.result c.loop-pair.lines c.add_binding.new.lines (c.args.lines.now ++ of_bindings all (names_of (map pair_data c.args.bound.now)))
    c.loop-pair-test.true c.pair-item.is
    (c.in_ok-add_binding.ensures ∙ ap (λ b. c.loop-pair.lines ++ warn_if (not b) (binding_line c.text.result.now)) (just c.text.result.now) ∙ ap (λ name. c.loop-pair.lines ++ make name) c.text.ensures) (c.loop-pair.invariant all just)

pub returns : goal.returns
returns c = λ all just.
    let make : Text → List Text = λ name. warn_if (not (is_named all name)) (binding_line name) in
    named_all pair_data make c.args.bound.now c.loop-pair.pair-index c.loop-pair.lines (c.args.lines.now ++ of_bindings all (names_of (map pair_data c.args.bound.now))) c.loop-pair-test.false (c.loop-pair.invariant all just)
