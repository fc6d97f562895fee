use Rattle.std.proofs.Common.{Some, ap, sym, ◌∙◌}
use Rattle.std.specs.Prelude.{option_map}
use Rattle.flow_core_plans.specs.RunFacts.{shown_of}
use Rattle.flow_core_plans.specs.Issuings.{made_of}
use Rattle.flow_core.proofs.ComingLemmas.{sent}
use Rattle.flow_core.proofs.coming.send.Goals as goal

pub returns-clause-edits : goal.returns-clause-edits
returns-clause-edits c =
    let task = c.args.task in
    let is = sym c.in_ok-found.ensures ∙ ap (option_map (made_of task)) c.in-Some.is in
    ap Some c.in_ok-edits.ensures.edits ∙ sym (sent (shown_of c.args.run.now) c.args.moment task (made_of task c.in-Some.made) c.requires.in_time is)
