use Rattle.std.proofs.Common.{ℕ, ◌∷◌, ◌++◌, [], List, map, refl}
use Rattle.cacao_book.specs.declared.cases.Case.{Case}
use Rattle.cacao_view_graph.specs.Drawings.{case_edge}
use Rattle.cacao_view_graph.specs.Places.{place_of}
use Rattle.cacao_view_graph.specs.Statements.{line_of}
use Rattle.cacao_view_graph.proofs.LineLemmas.{added_more}
use Rattle.cacao_view_graph.proofs.edges.add_cases.Goals as goal

pub loop-case-preserved : goal.loop-case-preserved
loop-case-preserved c =
    let F : List Case → List (List ℕ) = λ cases. map line_of (map (case_edge (place_of c.args.from.now)) cases) in
    added_more F (λ one. line_of (case_edge (place_of c.args.from.now) one) ∷ []) c.args.cases.now c.loop-case.case-index c.case-item.result c.loop-case.lines.items c.add_case.new.lines.items (c.args.lines.now.items ++ F c.args.cases.now)
    (λ z rest. refl) c.loop-case-test.true c.case-item.is c.in_ok-add_case.ensures c.loop-case.invariant
