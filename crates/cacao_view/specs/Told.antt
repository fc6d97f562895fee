-- Scaffold: An end of the code as that of the definitions.
use Rattle.run_journal.specs.declared.error.ImageError.{ImageError}
use Rattle.run_journal.specs.declared.error.ImageError.TheVariants as image_error
use Rattle.cacao_cli_ends.specs.Ends as cacao
use Rattle.cacao_cli_ends.specs.Told as of_cacao
use Rattle.cacao_view.specs.Ends as as_said
use Rattle.cacao_view.specs.declared.end.End.{End}
use Rattle.cacao_view.specs.declared.end.End.TheVariants as how

abbrev pub end_of : End → as_said.End
end_of how.Done = as_said.done
end_of (how.NotUnderstood wanted) = as_said.not_understood wanted
end_of how.Unsaid = as_said.unsaid
end_of (how.As end) = as_said.ends_as (of_cacao.end_of end)

-- how a call ends where the image of an engine's file holds no entries
abbrev pub image_end : ImageError → cacao.End
image_end (image_error.Damaged place) = cacao.damaged 0 place
image_end image_error.Memory = cacao.no_memory
