-- The names that are given are those that calls hand over.
use Rattle.std.proofs.Common.{◌∙◌, ◌++◌, List, ap, subst}
use Rattle.std.specs.List.{flat_map}
use Rattle.cacao_vars.specs.declared.declarations.Var.{Var}
use Rattle.cacao_view_preflight.specs.NameSets.{HasJust}
use Rattle.cacao_view_preflight.specs.Warnings.{Text, handed_in, of_called}
use Rattle.cacao_view_preflight.proofs.variables.add_called_book.Goals as goal

pub returns : goal.returns
returns c =
    let names : List Text = flat_map (handed_in c.args.book.now.id) c.args.books.now in
    c.in_ok-add_all_called.ensures names (subst (λ (id : Text). HasJust c.in_ok-given.given (flat_map (handed_in id) c.args.books.now)) c.text.ensures.text c.in_ok-given.ensures)
    ∙ ap (λ (vars : List Var). c.args.lines.now ++ of_called names c.args.n vars) c.as_slice.ensures.items
