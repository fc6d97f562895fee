use Rattle.std.proofs.Common.{◌≡◌, ℕ, List, Bool, [], false, length, get_or, Contains, sym, ◌∙◌, ap, inl, inr, ◌≤◌, arith}
use Rattle.std.proofs.lemmas.Bool.{cases_lt, false≢true}
use Rattle.std.proofs.lemmas.List.{get_or_past}
use Rattle.cacao_book.specs.declared.books.Book.{Book}
use Rattle.cacao_check_steps.specs.Links.{start_places}
use Rattle.cacao_check_regions.specs.Regions.{InRegion}
use Rattle.cacao_check_regions.specs.Charts.{AreMarksOf}
use Rattle.cacao_check_regions.proofs.ChartLemmas.{marks_onward, same_onward, region_within}
use Rattle.cacao_check_regions.proofs.regions.regions_of.Goals as goal

-- past the table and the book there is no region
none_past : (book : Book) (control : ℕ) (rows : List (List Bool)) → length rows ≤ control → length book.steps ≤ control → AreMarksOf (InRegion book control) (get_or rows control [])
none_past book control rows past over place = (
  λ m. absurd (false≢true (sym (ap (λ v. get_or v place false) (get_or_past rows control [] past)) ∙ m)),
  λ r. absurd (let lt = region_within book control r in omega arith),
)

pub returns : goal.returns
returns c =
    let same : length c.as_slice-count.result.now ≡ length c.args.book.now.steps = ap length c.as_slice-count.ensures.steps in
    record {
      main = marks_onward c.args.book.now c.args.chart.now c.requires (Contains (start_places c.args.book.now)) (Contains (start_places c.args.book.now)) c.in_ok-main.main (λ p. (λ s. s, λ s. s))
          (same_onward _ _ _ _ c.in_ok-main.main (c.as_slice.ensures ∙ c.requires.starts_are) c.deref.ensures.value c.in_ok-main.ensures.exact);
      controls = λ control. elim (cases_lt control c.loop-control.control) [
        | inl lt ↦ c.loop-control.invariant.1 control lt
        | inr ge ↦ none_past c.args.book.now control c.loop-control.controls.items (omega (arith, c.loop-control.invariant.0)) (omega (arith, same, c.loop-control-test.false))
      ];
    }
