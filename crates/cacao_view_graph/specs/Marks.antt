-- Promise: What a run marks at the steps of its playbooks: how often it walked there, and what is noted.
use Rattle.std.specs.Prelude.{ℕ, ◌==◌, ◌&&◌, Bool, false, List, [], ◌∷◌, ◌++◌, codes, count_by, decimal, flat_map, Option, Some, None, if◌then◌else◌}
use Rattle.cacao_view_graph.specs.declared.marks.Marks.{Marks}
use Rattle.cacao_view_graph.specs.declared.note.Note.{Note}
use Rattle.cacao_view_graph.specs.declared.spot.Spot.{Spot}

-- the spot is the step with this number of the playbook with that
abbrev pub is_at : ℕ → ℕ → Spot → Bool
is_at book step spot = (spot.book == book) && (spot.step == step)

-- how often the run walked at a step
abbrev pub walks : Marks → ℕ → ℕ → ℕ
walks marks book step = count_by (is_at book step) marks.walked.items

-- the text of a note, where it is of this step
abbrev pub noted : ℕ → ℕ → Note → List ℕ
noted book step note = if is_at book step note.spot then note.text else []

-- what stands at a step behind its other words, on lines of their own
abbrev pub marks_text : Marks → ℕ → ℕ → List ℕ
marks_text marks book step =
    codes "\nwalked " ++ (decimal (walks marks book step) ++ 10 ∷ flat_map (noted book step) marks.notes.items)

-- the same, where there is a run
abbrev pub notes_at : Option Marks → ℕ → ℕ → List ℕ
notes_at None book step = []
notes_at (Some marks) book step = marks_text marks book step

-- a step is pale where there is a run, and it never walked there
abbrev pub pale_at : Option Marks → ℕ → ℕ → Bool
pale_at None book step = false
pale_at (Some marks) book step = walks marks book step == 0
