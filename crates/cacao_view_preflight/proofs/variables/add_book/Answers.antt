-- The first playbook, or one that is called.
use Rattle.std.proofs.Common.{◌≡◌, ◌∙◌, ◌++◌, ◌==◌, Bool, false, List, ℕ, arith, ap, sym}
use Rattle.std.specs.List.{flat_map}
use Rattle.std.specs.Prelude.{if◌then◌else◌}
use Rattle.cacao_vars.specs.declared.declarations.Var.{Var}
use Rattle.cacao_view_preflight.specs.Warnings.{handed_in, of_book_variables, of_called, of_variables}
use Rattle.cacao_view_preflight.proofs.variables.add_book.Goals as goal

pub returns-then-n-eq0 : goal.returns-then-n-eq0
returns-then-n-eq0 c = λ all just.
    let zero : c.args.n ≡ 0 = omega (arith, c.if-n-eq0.true) in
    c.in_ok-add_variables.ensures all just ∙ ap (λ (vars : List Var). c.args.lines.now ++ of_variables all vars) c.as_slice.ensures.items
    ∙ ap (λ (k : ℕ). c.args.lines.now ++ of_book_variables all c.args.books.now k c.args.book.now) (sym zero)

pub returns : goal.returns
returns c = λ all just.
    let other : (c.args.n == 0) ≡ false = grind (arith, c.if-n-eq0.false) in
    c.in_ok-add_called_book.ensures
    ∙ ap (λ (b : Bool). c.args.lines.now ++ (if b then of_variables all c.args.book.now.variables else of_called (flat_map (handed_in c.args.book.now.id) c.args.books.now) c.args.n c.args.book.now.variables)) (sym other)
