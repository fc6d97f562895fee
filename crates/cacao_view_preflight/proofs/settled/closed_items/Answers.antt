use Rattle.std.proofs.Common.{rules, ◌∙◌, ap, not, List, map}
use Rattle.std.proofs.lemmas.Fn.{filter_same}
use Rattle.cacao_json.specs.Tree.{data_of, items_of}
use Rattle.cacao_json.specs.declared.tree.Tree.{Tree}
use Rattle.cacao_view_preflight.specs.Settled.{closed_items, is_open}
use Rattle.cacao_view_preflight.proofs.ChangeLemmas.{closed-trees}
use Rattle.cacao_view_preflight.proofs.settled.closed_items.Goals as goal

pub returns : goal.returns
returns c =
    c.from_vec.ensures
    ∙ ap (λ (trees : List Tree). items_of (map data_of trees)) (filter_same _ (λ (t : Tree). not (is_open (data_of t))) _ (λ x b f' k. search rules) _ _ c.retain.ensures.filtered)
    ∙ closed-trees c.into_vec-trees.result.items ∙ ap closed_items c.into_vec-trees.ensures.value
