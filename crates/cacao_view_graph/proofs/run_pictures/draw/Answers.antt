-- The texts that the run was given have the trees that are accepted, so that their playbooks are drawn.
use Rattle.std.proofs.Common.{◌≡◌, ◌∙◌, ℕ, List, IsSome, refl, ap, map}
use Rattle.std.proofs.lemmas.List.Elements.{All-same}
use Rattle.std.proofs.lemmas.Result.{IfOk-weaker}
use Rattle.cacao_json.specs.Reading.{tree}
use Rattle.cacao_json.specs.Tree.{data_of}
use Rattle.cacao_json.specs.declared.tree.Tree.{Tree}
use Rattle.flow_core_rules.specs.Givens.{Given}
use Rattle.cacao_view_graph.specs.declared.marks.Marks.{Marks}
use Rattle.cacao_view_graph.specs.declared.spot.Spot.{Spot}
use Rattle.cacao_view_graph.specs.Notes.{notes_of}
use Rattle.cacao_view_graph.proofs.RunLemmas.{draws_flow}
use Rattle.cacao_view_graph.proofs.TreeLemmas.{are_accepted, are_shaped, few_trees, have_trees}
use Rattle.cacao_view_graph.proofs.run_pictures.draw.Goals as goal

pub trees_of-requires : goal.trees_of-requires
trees_of-requires c =
    let given = c.args.flow.now.seen.given in
    let accepted = c.law.ensures.setup.accepted in
    All-same (λ (text : List ℕ). IsSome (tree text)) c.texts.result.now given.texts (c.texts.ensures ∙ ap (λ (g : Given). g.texts) c.setup.ensures)
    (have_trees given.texts accepted.trees accepted.trees_are)

pub marked_picture-requires-clause-few : goal.marked_picture-requires-clause-few
marked_picture-requires-clause-few c =
    let given = c.args.flow.now.seen.given in
    let taken : List Tree = c.as_slice-2.result.now in
    few_trees given c.law.ensures.setup taken
    (are_accepted given c.law.ensures.setup c.texts.result.now c.in_ok-trees.trees.items taken (c.texts.ensures ∙ ap (λ (g : Given). g.texts) c.setup.ensures) c.in_ok-trees.ensures c.as_slice-2.ensures.value)

pub marked_picture-requires-clause-shaped : goal.marked_picture-requires-clause-shaped
marked_picture-requires-clause-shaped c =
    let given = c.args.flow.now.seen.given in
    let taken : List Tree = c.as_slice-2.result.now in
    are_shaped given c.law.ensures.setup taken
    (are_accepted given c.law.ensures.setup c.texts.result.now c.in_ok-trees.trees.items taken (c.texts.ensures ∙ ap (λ (g : Given). g.texts) c.setup.ensures) c.in_ok-trees.ensures c.as_slice-2.ensures.value)

pub returns : goal.returns
returns c =
    let flow = c.args.flow.now in
    let taken : List Tree = c.as_slice-2.result.now in
    let same : map data_of taken ≡ c.law.ensures.setup.accepted.trees =
    are_accepted flow.seen.given c.law.ensures.setup c.texts.result.now c.in_ok-trees.trees.items taken (c.texts.ensures ∙ ap (λ (g : Given). g.texts) c.setup.ensures) c.in_ok-trees.ensures c.as_slice-2.ensures.value in
    let marks : Marks = record { walked = c.args.course.walked; notes = c.in_ok-notes.notes } in
    IfOk-weaker c.marked_picture.result _ _ (λ lines h. draws_flow flow c.args.course c.law.ensures.setup taken marks lines.items same
    (record { walked_are = refl; notes_are = c.in_ok-notes.ensures ∙ ap (λ (l : List Spot). notes_of flow.seen l) c.as_slice.ensures.value }) h) c.marked_picture.ensures
