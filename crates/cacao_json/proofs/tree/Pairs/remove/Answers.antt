use Rattle.std.proofs.Common.{sym, ap, subst, ◌∙◌}
use Rattle.serde_json.specs.Find.{get_member}
use Rattle.cacao_json.specs.Tree.{pairs_data, without}
use Rattle.cacao_json.specs.Profile.{AreSortedMembers}
use Rattle.cacao_json.proofs.Places.{found_there, not_found, removed_there, not_there, sorted_without}
use Rattle.cacao_json.proofs.tree.Pairs.remove.Goals as goal

pub invariant_of-self : goal.invariant_of-self
invariant_of-self c =
    let ps = c.self.inside.pairs.items in
    let name = c.args.name.now in
    subst AreSortedMembers (sym (ap pairs_data c.remove.ensures.items ∙ removed_there ps c.deref.result.now c.deref.ensures.value name c.in-Ok.place c.in-Ok.ensures)) (sorted_without name (pairs_data ps) c.self.invariant)

pub returns-in-Ok-clause-value : goal.returns-in-Ok-clause-value
returns-in-Ok-clause-value c =
    let ps = c.self.inside.pairs.items in
    let name = c.args.name.now in
    sym (found_there ps c.deref.result.now c.deref.ensures.value name c.in-Ok.place c.remove.result c.remove.ensures.value c.in-Ok.ensures) ∙ ap (get_member name) c.self.view_is

pub returns-in-Ok-clause-others : goal.returns-in-Ok-clause-others
returns-in-Ok-clause-others c =
    let name = c.args.name.now in
    ap pairs_data c.remove.ensures.items ∙ removed_there c.self.inside.pairs.items c.deref.result.now c.deref.ensures.value name c.in-Ok.place c.in-Ok.ensures ∙ ap (without name) c.self.view_is

pub returns-in-Err-clause-value : goal.returns-in-Err-clause-value
returns-in-Err-clause-value c =
    let name = c.args.name.now in
    sym (not_found c.self.inside.pairs.items c.deref.result.now c.deref.ensures.value name c.in-Err.field-0 c.in-Err.ensures) ∙ ap (get_member name) c.self.view_is

pub returns-in-Err-clause-others : goal.returns-in-Err-clause-others
returns-in-Err-clause-others c =
    let name = c.args.name.now in
    sym (ap (without name) (sym c.self.view_is) ∙ not_there c.self.inside.pairs.items c.deref.result.now c.deref.ensures.value name c.in-Err.field-0 c.in-Err.ensures ∙ c.self.view_is)
