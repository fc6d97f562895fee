-- Scaffold: What a run marks at the steps of one playbook, found in one walk.
use Rattle.std.specs.Prelude.{◌≡◌, ℕ, ◌<◌, List, Option, Some, None, IfSome, length, slice_get, count_by, flat_map, ⊤}
use Rattle.cacao_view_graph.specs.Marks.{is_at, noted, notes_at, pale_at}
use Rattle.cacao_view_graph.specs.declared.marks.Mark.{Mark}
use Rattle.cacao_view_graph.specs.declared.marks.Marks.{Marks}
use Rattle.cacao_view_graph.specs.declared.note.Note.{Note}
use Rattle.cacao_view_graph.specs.declared.spot.Spot.{Spot}
use Rattle.cacao_view_graph.specs.declared.tally.Tally.{Tally}

-- so often these walks came to a step, and this is noted there
pub record IsTally (book : ℕ) (walked : List Spot) (notes : List Note) (step : ℕ) (tally : Tally) : Type 0 where
  pub walks : tally.walks ≡ count_by (is_at book step) walked
  pub text : tally.text.items ≡ flat_map (noted book step) notes

-- so at each of these steps
abbrev pub AreTallies : ℕ → List Spot → List Note → List Tally → Type 0
AreTallies book walked notes tallies = (step : ℕ) (tally : Tally) → slice_get tallies step ≡ Some tally → IsTally book walked notes step tally

-- one more walk can be counted at the step
abbrev pub HasFew : List Tally → ℕ → Type 0
HasFew tallies step = IfSome (slice_get tallies step) (λ tally. tally.walks < 18446744073709551615)

-- where there is a run, the step has a tally
abbrev pub HasTally : Option Marks → ℕ → List Tally → Type 0
HasTally marks step tallies = IfSome marks (λ _. step < length tallies)

-- so have as many first steps
abbrev pub HaveTallies : Option Marks → ℕ → List Tally → Type 0
HaveTallies marks steps tallies = (step : ℕ) → step < steps → HasTally marks step tallies

-- the step has its own, where there is a run
abbrev pub IfTallied : Option Marks → ℕ → ℕ → List Tally → Type 0
IfTallied None book step tallies = ⊤
IfTallied (Some marks) book step tallies = (step < length tallies) × AreTallies book marks.walked.items marks.notes.items tallies

-- so has each of the first steps
abbrev pub AllTallied : Option Marks → ℕ → ℕ → List Tally → Type 0
AllTallied marks book steps tallies = (step : ℕ) → step < steps → IfTallied marks book step tallies

-- this is marked at the step
pub record IsMarkOf (marks : Option Marks) (book step : ℕ) (mark : Mark) : Type 0 where
  pub text : mark.text.items ≡ notes_at marks book step
  pub pale : mark.pale ≡ pale_at marks book step
