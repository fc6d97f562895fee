use Rattle.std.proofs.Common.{◌≡◌, ◌∙◌, ap, List}
use Rattle.std.specs.Prelude.{option_map, option_and_then, slice_get}
use Rattle.cacao_book.specs.declared.books.Book.{Book}
use Rattle.flow_core_rules.specs.Givens.{Given}
use Rattle.flow_core_texts.specs.declared.wordings.StepWords.{StepWords}
use Rattle.flow_core_texts.specs.declared.wordings.BookWords.{BookWords}
use Rattle.flow_core_texts.specs.Wordings.{step_said, step_words}
use Rattle.flow_core_setup.proofs.WordLemmas.{words_at}
use Rattle.flow_core_setup.proofs.setup.Setup.step_words.Goals as goal

pub returns : goal.returns
returns c =
    let books : c.self.inside.checked.books ≡ c.args.self.now.books = ap (λ (g : Given). g.books) c.self.view_is in
    ap (option_map step_words) (
    c.step_words_in.ensures ∙ ap (λ (l : List StepWords). slice_get l c.args.step) c.as_slice-2.ensures.value
    ∙ ap (option_and_then (λ (w : BookWords). slice_get w.steps.items c.args.step)) (c.in-Some.ensures ∙ ap (λ (l : List BookWords). slice_get l c.args.book) c.as_slice.ensures.value))
    ∙ words_at c.self.inside.checked.books c.self.inside.words.items c.args.book c.args.step c.self.invariant.1
    ∙ ap (λ (bs : List Book). option_map step_said (option_and_then (λ (b : Book). slice_get b.steps c.args.step) (slice_get bs c.args.book))) books
