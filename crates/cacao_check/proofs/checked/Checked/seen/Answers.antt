use Rattle.std.proofs.Common.{◌≡◌, ◌<◌, List, length, Some, slice_get, refl, sym, ◌∙◌, ap, subst, arith}
use Rattle.std.proofs.lemmas.Option.{slice_get_read}
use Rattle.cacao_book.specs.declared.books.Book.{Book}
use Rattle.cacao_check_regions.specs.Surveys.{IsSurveyOf}
use Rattle.cacao_check_regions.specs.Looking.{ListsSights}
use Rattle.cacao_check.proofs.checked.Checked.seen.Goals as goal

one : (a b : Book) → Some a ≡ Some b → a ≡ b
one a b e = cc

pub seen_at_key-requires : goal.seen_at_key-requires
seen_at_key-requires c =
    let books : c.args.self.now.books ≡ c.self.inside.books = ap (λ v. v.books) (sym c.self.view_is) in
    let same : length c.args.self.now.books ≡ length c.self.inside.books = ap length books in
    let read : length c.as_slice.result.now ≡ length c.self.inside.books = ap length c.as_slice.ensures in
    let lt : c.args.book < length c.as_slice.result.now = omega (arith, same, read, c.requires) in
    let at : slice_get c.self.inside.books c.args.book ≡ Some c.index-as_slice-at.result =
    subst (λ (v : List Book). slice_get v c.args.book ≡ Some c.index-as_slice-at.result) c.as_slice.ensures (slice_get_read c.as_slice.result.now (length c.as_slice.result.now) c.args.book c.index-as_slice-at.result refl lt c.index-as_slice-at.is) in
    let inside : c.args.book < length c.self.inside.surveys.items = omega (arith, same, c.requires, c.self.invariant.surveyed.len) in
    let there : slice_get c.self.inside.surveys.items c.args.book ≡ Some c.index.result.now = slice_get_read c.self.inside.surveys.items (length c.self.inside.surveys.items) c.args.book c.index.result.now refl inside c.index.ensures in
    let survey : IsSurveyOf c.self.inside.books c.index-as_slice-at.result c.index.result.now = c.self.invariant.surveyed.each c.args.book c.index-as_slice-at.result c.index.result.now at there in
    survey.chart

pub returns : goal.returns
returns c b at =
    let books : c.args.self.now.books ≡ c.self.inside.books = ap (λ v. v.books) (sym c.self.view_is) in
    let same : length c.args.self.now.books ≡ length c.self.inside.books = ap length books in
    let read : length c.as_slice.result.now ≡ length c.self.inside.books = ap length c.as_slice.ensures in
    let lt : c.args.book < length c.as_slice.result.now = omega (arith, same, read, c.requires) in
    let here : slice_get c.self.inside.books c.args.book ≡ Some c.index-as_slice-at.result =
    subst (λ (v : List Book). slice_get v c.args.book ≡ Some c.index-as_slice-at.result) c.as_slice.ensures (slice_get_read c.as_slice.result.now (length c.as_slice.result.now) c.args.book c.index-as_slice-at.result refl lt c.index-as_slice-at.is) in
    let at' : slice_get c.self.inside.books c.args.book ≡ Some b = subst (λ (v : List Book). slice_get v c.args.book ≡ Some b) books at in
    subst (λ (v : Book). ListsSights v c.args.key.now c.args.name.now c.in_ok-seen.seen) (one c.index-as_slice-at.result b (sym here ∙ at')) c.in_ok-seen.ensures
