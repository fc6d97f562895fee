-- Promise: How a call of the program ends: its exit status, and its last line if it has one.
use Rattle.std.specs.Prelude.{ℕ, ◌++◌, codes, Option, Some, None, option_map}
use Rattle.cacao_cli_ends.specs.Ends as of_cacao
use Rattle.cacao_view_words.specs.Texts.{Text}
use Rattle.cacao_view_words.specs.Wants.{wanted_line}
use Rattle.cacao_view_words.specs.declared.wanted.Wanted.{Wanted}

pub data End : Type 0 where
  done : End  -- all was said before
  not_understood : (wanted : Wanted) → End  -- the words have no reading
  unsaid : End  -- a line could not be said
  ends_as : (end : of_cacao.End) → End  -- as a command of `cacao` ends

abbrev pub status_of : End → ℕ
status_of done = 0
status_of (not_understood wanted) = 2
status_of unsaid = 9
status_of (ends_as end) = of_cacao.status_of end

-- the last line, with its line feed
abbrev pub last_line : End → Option Text
last_line done = None
last_line (not_understood wanted) = Some (wanted_line wanted)
last_line unsaid = None
last_line (ends_as end) = option_map (λ text. text ++ codes "\n") (of_cacao.text_of end)
