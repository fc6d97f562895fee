-- Scaffold: A last line, if there was memory for it.
use Rattle.std.specs.Prelude.{ℕ, Result, Ok, Err, string_bytes}
use Rattle.std.specs.declared.alloc.AllocError.{AllocError}
use Rattle.std.specs.declared.alloc.Global.{Global}
use Rattle.std.specs.Prelude.{String}
use Rattle.cacao_site.specs.View.{SiteView}
use Rattle.cacao_cli_ends.specs.Lines.{SaysOrFails}
use Rattle.cacao_cli_fleets.specs.FleetEnds.{WantsForLine}

abbrev pub SaysMade : Result (String Global) AllocError → ℕ → SiteView → SiteView → ℕ → Type 0
SaysMade (Ok line) status old new answer = SaysOrFails (string_bytes line) status old new answer
SaysMade (Err error) status old new answer = WantsForLine old new answer
