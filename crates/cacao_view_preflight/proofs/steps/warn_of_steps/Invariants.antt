use Rattle.std.proofs.Common.{◌≡◌, ◌++◌, drop, map}
use Rattle.std.specs.Prelude.{[], slice_index_or}
use Rattle.cacao_view_preflight.specs.Warnings.{each, of_steps}
use Rattle.cacao_view_preflight.proofs.steps.warn_of_steps.Given as goal

abbrev pub invariant-loop-n : goal.invariant-loop-n
invariant-loop-n l =
    l.lines ++ each (λ n book. of_steps (slice_index_or (map (λ survey. survey.chart.reach) l.surveys) n []) n book) l.n (drop l.n l.books)
    ≡ l.fn.lines ++ each (λ n book. of_steps (slice_index_or (map (λ survey. survey.chart.reach) l.surveys) n []) n book) 0 l.books
