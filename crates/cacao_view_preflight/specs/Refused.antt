-- Scaffold: The refusal that the reading of a command gave, if it gave one; none is known where memory was wanted.
use Rattle.std.specs.Prelude.{◌≡◌, Option, Some, None, Result, Ok, Err}
use Rattle.oc2_msg.specs.declared.commands.Command.{Command}
use Rattle.oc2_msg.specs.declared.refusals.CommandError.{CommandError}
use Rattle.oc2_msg.specs.declared.refusals.CommandError.TheVariants.{Refused, Memory}
use Rattle.oc2_msg.specs.declared.refusals.Refusal.{Refusal}

abbrev pub IsRefusedBy : CommandError → Option Refusal → Type 0
IsRefusedBy (Refused refusal) found = found ≡ Some refusal
IsRefusedBy Memory found = ⊥

abbrev pub IsRefusedIn : Result Command CommandError → Option Refusal → Type 0
IsRefusedIn (Ok command) found = found ≡ None
IsRefusedIn (Err error) found = IsRefusedBy error found
