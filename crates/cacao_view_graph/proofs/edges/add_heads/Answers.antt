-- The links of a branch, one after another.
use Rattle.std.proofs.Common.{rules, ◌≡◌, ◌∙◌, ◌++◌, ◌∷◌, [], List, ℕ, ap, map, sym}
use Rattle.std.specs.Prelude.{codes}
use Rattle.cacao_book.specs.declared.step_kinds.StepKind.{StepKind}
use Rattle.cacao_view_graph.specs.Drawings.{head_edges, link, links}
use Rattle.cacao_view_graph.specs.Places.{place_of}
use Rattle.cacao_view_graph.specs.Statements.{line_of}
use Rattle.cacao_view_graph.proofs.LineLemmas.{lines_then}
use Rattle.cacao_view_graph.proofs.edges.add_heads.Goals as goal

pub returns-in_ok-add_links-in-If : goal.returns-in_ok-add_links-in-If
returns-in_ok-add_links-in-If c =
    let from = place_of c.args.from.now in
    let items = c.args.lines.now.items in
    let key : c.text.result.now ≡ c.in-If.on_true = search rules in
    lines_then items c.add_link.new.lines.items c.add_links.new.lines.items (link from (codes "on_true") c.in-If.on_true ∷ []) (links from (codes "on_false") c.in-If.on_false)
    (c.in_ok-add_link-in-If.ensures ∙ ap (λ (k : List ℕ). items ++ line_of (link from (codes "on_true") k) ∷ []) key) c.in_ok-add_links-in-If.ensures
    ∙ ap (λ (kind : StepKind). items ++ map line_of (head_edges from kind)) (sym c.in-If.is)
