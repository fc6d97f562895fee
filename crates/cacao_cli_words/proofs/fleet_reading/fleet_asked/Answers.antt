-- The one value.
use Rattle.std.proofs.Common.{◌≡◌, subst, Option, IfOk}
use Rattle.std.specs.Prelude.{option_map}
use Rattle.cacao_cli_words.specs.Commands.{fleet_request_by}
use Rattle.cacao_cli_words.specs.Requests.{FleetRequest}
use Rattle.cacao_cli_words.proofs.FleetLemmas.{by-one}
use Rattle.cacao_cli_words.proofs.fleet_reading.fleet_asked.Goals as goal

pub returns-in-len1 : goal.returns-in-len1
returns-in-len1 c =
    subst (λ (r : Option FleetRequest). IfOk c.fleet_with.result (λ o. option_map fleet_request_by o ≡ r))
    (by-one c.as_slice.result.now c.args.found.values.items _ c.as_slice-in-len1.result.now c.args.found.names.items c.as_slice.ensures.value c.as_slice-in-len1.ensures.value c.in-len1.len_at_least c.in-len1.len_below)
    c.fleet_with.ensures
