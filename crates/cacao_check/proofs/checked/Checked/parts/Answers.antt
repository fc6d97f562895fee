use Rattle.std.proofs.Common.{◌≡◌, ◌<◌, ℕ, zero, suc, List, [], ◌∷◌, length, Some, slice_get, refl, sym, ap, subst, arith}
use Rattle.std.proofs.lemmas.Option.{slice_get_read}
use Rattle.cacao_book.specs.declared.books.Book.{Book}
use Rattle.cacao_check_regions.specs.Surveys.{IsSurveyOf}
use Rattle.cacao_check_steps.specs.Parts.{ReadsStep}
use Rattle.cacao_check.proofs.checked.Checked.parts.Goals as goal

some_at : (books : List Book) (n : ℕ) → n < length books → (b : Book) × (slice_get books n ≡ Some b)
some_at [] n lt = absurd (omega arith)
some_at (b ∷ books) zero lt = (b, refl)
some_at (b ∷ books) (suc n) lt = some_at books n (omega arith)

pub index-requires-2 : goal.index-requires-2
index-requires-2 c =
    let books : c.args.self.now.books ≡ c.self.inside.books = ap (λ v. v.books) (sym c.self.view_is) in
    let same : length c.args.self.now.books ≡ length c.self.inside.books = ap length books in
    let b : (b : Book) × (slice_get c.self.inside.books c.args.book ≡ Some b) = some_at c.self.inside.books c.args.book (omega (arith, same, c.requires.book)) in
    let inside : c.args.book < length c.self.inside.surveys.items = omega (arith, same, c.requires.book, c.self.invariant.surveyed.len) in
    let there : slice_get c.self.inside.surveys.items c.args.book ≡ Some c.index.result.now = slice_get_read c.self.inside.surveys.items (length c.self.inside.surveys.items) c.args.book c.index.result.now refl inside c.index.ensures in
    let survey : IsSurveyOf c.self.inside.books b.0 c.index.result.now = c.self.invariant.surveyed.each c.args.book b.0 c.index.result.now b.1 there in
    let place : c.args.place < length b.0.steps = c.requires.place b.0 (subst (λ (v : List Book). slice_get v c.args.book ≡ Some b.0) (sym books) b.1) in
    omega (arith, place, survey.parts.len)

pub returns : goal.returns
returns c b step at here =
    let books : c.args.self.now.books ≡ c.self.inside.books = ap (λ v. v.books) (sym c.self.view_is) in
    let same : length c.args.self.now.books ≡ length c.self.inside.books = ap length books in
    let at' : slice_get c.self.inside.books c.args.book ≡ Some b = subst (λ (v : List Book). slice_get v c.args.book ≡ Some b) books at in
    let inside : c.args.book < length c.self.inside.surveys.items = omega (arith, same, c.requires.book, c.self.invariant.surveyed.len) in
    let there : slice_get c.self.inside.surveys.items c.args.book ≡ Some c.index.result.now = slice_get_read c.self.inside.surveys.items (length c.self.inside.surveys.items) c.args.book c.index.result.now refl inside c.index.ensures in
    let survey : IsSurveyOf c.self.inside.books b c.index.result.now = c.self.invariant.surveyed.each c.args.book b c.index.result.now at' there in
    let place : c.args.place < length b.steps = c.requires.place b at in
    let within : c.args.place < length c.index.result.now.parts.items = omega (arith, place, survey.parts.len) in
    let parts : slice_get c.index.result.now.parts.items c.args.place ≡ Some c.index-2.result.now = slice_get_read c.index.result.now.parts.items (length c.index.result.now.parts.items) c.args.place c.index-2.result.now refl within c.index-2.ensures in
    subst (λ (v : List Book). ReadsStep v b step c.index-2.result.now) (sym books) (survey.parts.each c.args.place step c.index-2.result.now here parts)
