-- The name of the link is that of the case.
use Rattle.std.proofs.Common.{rules, ◌≡◌, ◌++◌, ◌∷◌, [], List, ℕ, subst}
use Rattle.std.specs.Prelude.{OnOk, codes}
use Rattle.cacao_view_graph.specs.Drawings.{link}
use Rattle.cacao_view_graph.specs.Places.{place_of}
use Rattle.cacao_view_graph.specs.Statements.{line_of}
use Rattle.cacao_view_graph.proofs.edges.add_case.Goals as goal

pub returns : goal.returns
returns c =
    let name : c.as_slice.result.now ≡ codes "case " ++ c.args.case.now.value = search rules in
    let key : c.text-2.result.now ≡ c.args.case.now.step = search rules in
    subst (λ (n : List ℕ). OnOk c.add_link.result (c.add_link.new.lines.items ≡ c.args.lines.now.items ++ line_of (link (place_of c.args.from.now) n c.args.case.now.step) ∷ [])) name
    (subst (λ (k : List ℕ). OnOk c.add_link.result (c.add_link.new.lines.items ≡ c.args.lines.now.items ++ line_of (link (place_of c.args.from.now) c.as_slice.result.now k) ∷ [])) key c.add_link.ensures)
