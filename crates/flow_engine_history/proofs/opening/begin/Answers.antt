use Rattle.std.proofs.Common.{◌≡◌, ◌∙◌, Some, sym, subst}
use Rattle.run_records.specs.Reading.{record_of}
use Rattle.flow_core_rules.specs.Givens.{Given}
use Rattle.flow_engine_history.specs.Replays.{RefusesBegin}
use Rattle.flow_engine_history.proofs.OpenLemmas.{refused_begin}
use Rattle.flow_engine_history.proofs.opening.begin.Goals as goal

pub returns-clause-refused : goal.returns-clause-refused
returns-clause-refused c =
    let reads : record_of c.args.entry.now ≡ Some c.in-Some.item = sym c.in_ok-item.ensures.value ∙ c.in-Some.is in
    refused_begin c.args.flow.now.seen.given c.args.run c.args.entry.now c.in-Some.item c.in-Err.error reads
    (subst (λ (g : Given). RefusesBegin g c.args.run c.in-Some.item c.in-Err.error) c.setup.ensures c.in-Err.ensures.refused)
