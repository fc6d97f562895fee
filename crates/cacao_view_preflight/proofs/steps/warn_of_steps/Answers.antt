use Rattle.std.proofs.Common.{◌∙◌, ◌++◌, sym, ap, arith, ℕ, ◌<◌, Bool, List, [], length, map}
use Rattle.std.specs.Prelude.{slice_index_or}
use Rattle.cacao_book.specs.declared.books.Book.{Book}
use Rattle.cacao_check_regions.specs.declared.surveys.Survey.{Survey}
use Rattle.cacao_view_preflight.specs.Warnings.{Text, each, of_steps}
use Rattle.cacao_view_preflight.proofs.EachLemmas.{each_all, each_next}
use Rattle.cacao_view_preflight.proofs.ReachLemmas.{index_mapped}
use Rattle.cacao_view_preflight.proofs.steps.warn_of_steps.Goals as goal

pub loop-n-preserved : goal.loop-n-preserved
loop-n-preserved c =
    let reach : Survey → List Bool = λ survey. survey.chart.reach in
    let reached : List (List Bool) = map reach c.args.surveys.now in
    let make : ℕ → Book → List Text = λ n book. of_steps (slice_index_or reached n []) n book in
    let survey : Survey = c.index-surveys-n.result in
    let within : c.loop-n.n < length c.args.surveys.now = omega (arith, c.loop-n-test.true, c.requires) in
    let same = sym (index_mapped reach c.args.surveys.now c.loop-n.n [] survey within) in
    each_next make c.args.books.now c.loop-n.n c.index-books-n.result c.loop-n.lines c.add_book.new.lines (c.args.lines.now ++ each make 0 c.args.books.now) c.loop-n-test.true c.index-books-n.is
    (c.in_ok-add_book.ensures ∙ ap (λ (r : List Bool). c.loop-n.lines ++ of_steps r c.loop-n.n c.index-books-n.result) same) c.loop-n.invariant

pub returns : goal.returns
returns c =
    let reached : List (List Bool) = map (λ (survey : Survey). survey.chart.reach) c.args.surveys.now in
    let make : ℕ → Book → List Text = λ n book. of_steps (slice_index_or reached n []) n book in
    each_all make c.args.books.now c.loop-n.n c.loop-n.lines (c.args.lines.now ++ each make 0 c.args.books.now) c.loop-n-test.false c.loop-n.invariant
