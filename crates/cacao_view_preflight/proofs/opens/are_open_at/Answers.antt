use Rattle.std.proofs.Common.{◌∙◌, sym, Bor, List, ℕ}
use Rattle.cacao_json.specs.Tree.{data_of}
use Rattle.cacao_view_preflight.specs.Settled.{is_open_at}
use Rattle.cacao_view_preflight.proofs.EachLemmas.{list_any-map}
use Rattle.cacao_view_preflight.proofs.opens.are_open_at.Goals as goal

pub returns : goal.returns
returns c =
    c.is_any_open_at.ensures ∙ sym (list_any-map (λ (name : List ℕ). is_open_at name (data_of c.args.tree.now)) (λ (name : Bor (List ℕ)). name.now) c.args.names.now)
