-- Promise: The lines of a `CallLog`, from the bytes of all writes and lines.
use Rattle.std.specs.Prelude.{ℕ, ◌≤◌, List, map, slice_range}
use Rattle.cacao_site_log.specs.declared.line.Line.{Line}

-- a line with its beat
abbrev pub line_of : List ℕ → Line → ℕ × List ℕ
line_of text line = (line.beat, slice_range text line.start line.end)

abbrev pub lines_of : List ℕ → List Line → List (ℕ × List ℕ)
lines_of text lines = map (line_of text) lines

-- the line lies in the first n bytes
abbrev pub LiesIn : ℕ → Line → Type 0
LiesIn n line = (line.start ≤ line.end) × (line.end ≤ n)
