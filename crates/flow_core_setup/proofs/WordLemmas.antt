-- What was read of commands, found by numbers.
use Rattle.std.proofs.Common.{◌≡◌, ℕ, zero, suc, List, [], ◌∷◌, map, Option, Some, None, refl, ap, ◌∙◌}
use Rattle.std.specs.Prelude.{option_and_then, option_map, slice_get}
use Rattle.cacao_book.specs.declared.books.Book.{Book}
use Rattle.cacao_book.specs.declared.steps.Step.{Step}
use Rattle.cacao_check_steps.specs.Uses.{commands_of, content_tree}
use Rattle.flow_core_texts.specs.declared.wordings.StepWords.{StepWords}
use Rattle.flow_core_texts.specs.declared.wordings.BookWords.{BookWords}
use Rattle.flow_core_texts.specs.Contents.{content_data}
use Rattle.flow_core_texts.specs.Questions.{question_of}
use Rattle.flow_core_texts.specs.Wordings.{Said, step_said, step_words, book_said, book_words, AreWordsOf}
use Rattle.flow_core_setup.proofs.SetupParts.{same_at}

same_place : {X Y Z : Type 0} (f : X → Z) (g : Y → Z) (xs : List X) (ys : List Y) (k : ℕ) → map f xs ≡ map g ys → option_map f (slice_get xs k) ≡ option_map g (slice_get ys k)
same_place f g [] [] k e = refl
same_place f g [] (y ∷ ys) k e = absurd (cc)
same_place f g (x ∷ xs) [] k e = absurd (cc)
same_place f g (x ∷ xs) (y ∷ ys) zero e = cc
same_place f g (x ∷ xs) (y ∷ ys) (suc k) e = same_place f g xs ys k (let rest : map f xs ≡ map g ys = cc in rest)

pub words_at : (books : List Book) (all : List BookWords) (book step : ℕ) → AreWordsOf books all
    → option_map step_words (option_and_then (λ (w : BookWords). slice_get w.steps.items step) (slice_get all book)) ≡ option_map step_said (option_and_then (λ (b : Book). slice_get b.steps step) (slice_get books book))
words_at books all book step e = by (slice_get all book) (slice_get books book) (same_place book_words book_said all books book e)
  where
    by : (o : Option BookWords) (p : Option Book) → option_map book_words o ≡ option_map book_said p
        → option_map step_words (option_and_then (λ (w : BookWords). slice_get w.steps.items step) o) ≡ option_map step_said (option_and_then (λ (b : Book). slice_get b.steps step) p)
    by None None e = refl
    by None (Some b) e = absurd (cc)
    by (Some w) None e = absurd (cc)
    by (Some w) (Some b) e = same_place step_words step_said w.steps.items b.steps step (let here : map step_words w.steps.items ≡ map step_said b.steps = cc in here)

pub no_words : {A : Type 0} (f : Step → Option A) (s : Option Step) → option_map step_words None ≡ option_map step_said s → None ≡ option_and_then f s
no_words f None e = refl
no_words f (Some s) e = absurd (cc)

pub content_read : (w : StepWords) (s : Option Step) (command : ℕ) → option_map step_words (Some w) ≡ option_map step_said s
    → option_and_then (option_map content_data) (slice_get w.contents.items command) ≡ option_and_then (λ (s : Step). option_and_then content_tree (slice_get (commands_of s.kind) command)) s
content_read w None command e = absurd (cc)
content_read w (Some s) command e =
    let same : step_words w ≡ step_said s = cc in
    same_at (option_map content_data) content_tree w.contents.items (commands_of s.kind) command (ap (λ (said : Said). said.0) same)

mapped_at : {X Z : Type 0} (f : X → Option Z) (xs : List X) (k : ℕ) → option_and_then (λ o. o) (slice_get (map f xs) k) ≡ option_and_then f (slice_get xs k)
mapped_at f [] k = refl
mapped_at f (x ∷ xs) zero = refl
mapped_at f (x ∷ xs) (suc k) = mapped_at f xs k

pub question_read : (w : StepWords) (s : Option Step) (command : ℕ) → option_map step_words (Some w) ≡ option_map step_said s
    → option_and_then (λ question. question) (slice_get w.questions.items command) ≡ option_and_then (λ (s : Step). option_and_then question_of (slice_get (commands_of s.kind) command)) s
question_read w None command e = absurd (cc)
question_read w (Some s) command e =
    let same : step_words w ≡ step_said s = cc in
    ap (λ (texts : List (Option (List ℕ))). option_and_then (λ question. question) (slice_get texts command)) (ap (λ (said : Said). said.1) same) ∙ mapped_at question_of (commands_of s.kind) command
