use Rattle.std.proofs.Common.{◌≡◌, sym, ap, subst, arith, List, length, Some}
use Rattle.std.specs.Prelude.{slice_get}
use Rattle.cacao_book.specs.declared.books.Book.{Book}
use Rattle.cacao_book.specs.declared.steps.Step.{Step}
use Rattle.cacao_check_steps.specs.Parts.{ReadsStep}
use Rattle.flow_core_rules.specs.Givens.{Given}
use Rattle.flow_core_setup.proofs.SetupParts.{parts_at}
use Rattle.flow_core_setup.proofs.setup.Setup.parts.Goals as goal

pub returns : goal.returns
returns c =
    let books : c.self.inside.checked.books ≡ c.args.self.now.books = ap (λ (g : Given). g.books) c.self.view_is in
    parts_at c.args.self.now c.in-Some.found.now c.parts.result.now c.args.book c.args.step (sym c.in-Some.ensures) (omega (arith, c.if-as_slice-step.false, ap length c.as_slice.ensures.steps))
    (subst (λ (bs : List Book). (b : Book) (step : Step) → slice_get bs c.args.book ≡ Some b → slice_get b.steps c.args.step ≡ Some step → ReadsStep bs b step c.parts.result.now) books c.parts.ensures)
