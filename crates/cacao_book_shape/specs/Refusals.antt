-- Promise: Why a tree is refused as a playbook.
use Rattle.std.specs.Prelude.{◌≡◌, ℕ, List, Option, option_map, option_and_then, slice_get, ⊤}
use Rattle.serde_json.specs.Data.{Data}
use Rattle.cacao_book_shape.specs.declared.refusals.BookError.{BookError}
use Rattle.cacao_book_shape.specs.declared.refusals.BookError.TheVariants as book_error
use Rattle.cacao_book_shape.specs.Least.{IsLeastBreak}
use Rattle.cacao_book_shape.specs.Shape.{ShapeDemand, shape_rank, shape_number, KeepsShape, workflow}

-- the key of the step at a place
abbrev pub key_at : Data → Option ℕ → Option (List ℕ)
key_at t step = option_and_then (λ place. option_map (λ m. m.0) (slice_get (workflow t) place)) step

-- the key of a step and the number of a rule, as a break tells them, are those of this demand
abbrev pub TellsShape : Data → Option (List ℕ) → ℕ → ShapeDemand → Type 0
TellsShape t step rule demand = (step ≡ key_at t demand.step) × (rule ≡ shape_number demand.rule)

-- the cause of each refusal: the least break, or memory
abbrev pub RefusesTree : Data → BookError → Type 0
RefusesTree t (book_error.Shape step rule) =
    (demand : ShapeDemand) × TellsShape t step rule demand × IsLeastBreak shape_rank (KeepsShape t) demand
RefusesTree t book_error.Memory = ⊤
