-- The control step is one of the book.
use Rattle.std.proofs.Common.{◌≡◌, ◌∙◌, ◌<◌, ◌≤◌, List, Some, length, slice_get, refl, sym, ap, subst, arith}
use Rattle.std.proofs.lemmas.Option.{slice_get_read}
use Rattle.cacao_book.specs.declared.steps.Step.{Step}
use Rattle.cacao_view_graph.specs.Homes.{IsHome}
use Rattle.cacao_view_graph.proofs.HomeLemmas.{home_within, some_home}
use Rattle.cacao_view_graph.proofs.homes.home_key.Goals as goal

pub offset_bounds-as_slice-control : goal.offset_bounds-as_slice-control
offset_bounds-as_slice-control c =
    let lt : c.in-Some.control < length c.args.book.now.steps = home_within c.args.book.now c.args.regions.now c.args.place c.in-Some.control c.requires c.in-Some.ensures in
    let few : length c.args.book.now.steps ≤ 4096 = c.as_slice.ensures.few in
    omega arith

pub bounds-as_slice-control : goal.bounds-as_slice-control
bounds-as_slice-control c =
    let lt : c.in-Some.control < length c.args.book.now.steps = home_within c.args.book.now c.args.regions.now c.args.place c.in-Some.control c.requires c.in-Some.ensures in
    let same : length c.as_slice.result.now ≡ length c.args.book.now.steps = ap length c.as_slice.ensures.steps in
    omega arith

pub returns-in-Some : goal.returns-in-Some
returns-in-Some c =
    let lt : c.in-Some.control < length c.args.book.now.steps = home_within c.args.book.now c.args.regions.now c.args.place c.in-Some.control c.requires c.in-Some.ensures in
    let same : length c.as_slice.result.now ≡ length c.args.book.now.steps = ap length c.as_slice.ensures.steps in
    let inside : c.in-Some.control < length c.as_slice.result.now = omega arith in
    let at : slice_get c.args.book.now.steps c.in-Some.control ≡ Some c.index-as_slice-control.result =
    ap (λ (l : List Step). slice_get l c.in-Some.control) (sym c.as_slice.ensures.steps)
    ∙ slice_get_read c.as_slice.result.now (length c.as_slice.result.now) c.in-Some.control c.index-as_slice-control.result refl inside c.index-as_slice-control.is in
    subst (λ k. IsHome c.args.book.now c.args.place (Some k)) (ap (λ (s : Step). s.key) c.index-as_slice-control.is ∙ sym c.text.ensures.text)
    (some_home c.args.book.now c.args.regions.now c.args.place c.in-Some.control c.index-as_slice-control.result c.requires c.in-Some.ensures at)
