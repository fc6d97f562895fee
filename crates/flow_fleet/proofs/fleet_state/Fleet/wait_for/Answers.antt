use Rattle.std.proofs.Common.{◌∙◌, sym, ap, subst}
use Rattle.flow_world_steps.specs.Worlds.{looked}
use Rattle.flow_world_parts.specs.Clock.{FallsShort, IsReached}
use Rattle.flow_world_parts.specs.declared.error.WorldError.{WorldError}
use Rattle.flow_fleet_steps.specs.Errors.{fleet_refusal}
use Rattle.flow_fleet_steps.specs.declared.error.FleetError.{FleetError}
use Rattle.flow_fleet.specs.Leads.{Refuses}
use Rattle.flow_fleet.proofs.LoopLemmas.{match_none, match_some}
use Rattle.flow_fleet.proofs.TurnLemmas.{next_is_late, passes_limit, reached_between, waited, waits_on}
use Rattle.flow_fleet.proofs.fleet_state.Fleet.wait_for.Goals as goal

pub returns-then-moment-gt-LAST_MOMENT-clause-turned : goal.returns-then-moment-gt-LAST_MOMENT-clause-turned
returns-then-moment-gt-LAST_MOMENT-clause-turned g c =
    next_is_late (g.R.Disk.view c.args.rack.now) c.args.self.now (g.met.R.Disk.sound c.args.rack.now) c.requires.between c.requires.goes c.requires.some c.requires.idle c.requires.on_time c.requires.up_to_date
    c.args.moment c.requires.next c.if-moment-gt-LAST_MOMENT.true

pub returns-in-Ok-Some-clause-turned : goal.returns-in-Ok-Some-clause-turned
returns-in-Ok-Some-clause-turned g c =
    let so = g.R.Disk.view c.args.rack.now in
    let sn = g.R.Disk.view c.reach.new.site in
    waited so c.args.self.now (g.met.R.Disk.sound c.args.rack.now) c.requires.between c.requires.goes c.requires.some c.requires.idle c.requires.on_time c.requires.up_to_date
    c.args.moment c.in-Ok-Some.now sn c.requires.next c.if-moment-gt-LAST_MOMENT.false
    (match_some c.in-Ok-Some.field-0 c.in-Ok-Some.now (FallsShort c.args.moment so sn) (λ now. IsReached c.args.moment now so sn) c.in-Ok-Some.field-0-is c.in-Ok-Some.ensures.reached)

pub returns-in-Ok-Some-clause-between : goal.returns-in-Ok-Some-clause-between
returns-in-Ok-Some-clause-between g c = λ ok.
    let so = g.R.Disk.view c.args.rack.now in
    let sn = g.R.Disk.view c.reach.new.site in
    reached_between so sn c.args.self.now c.args.moment c.in-Ok-Some.now c.requires.between
    (match_some c.in-Ok-Some.field-0 c.in-Ok-Some.now (FallsShort c.args.moment so sn) (λ now. IsReached c.args.moment now so sn) c.in-Ok-Some.field-0-is c.in-Ok-Some.ensures.reached)

pub returns-in-Ok-None-clause-turned : goal.returns-in-Ok-None-clause-turned
returns-in-Ok-None-clause-turned g c =
    let so = g.R.Disk.view c.args.rack.now in
    let sn = g.R.Disk.view c.reach.new.site in
    waits_on so c.args.self.now (g.met.R.Disk.sound c.args.rack.now) c.requires.between c.requires.goes c.requires.some c.requires.idle c.requires.on_time c.requires.up_to_date
    c.args.moment sn c.requires.next c.if-moment-gt-LAST_MOMENT.false
    (match_none c.in-Ok-None.field-0 (FallsShort c.args.moment so sn) (λ now. IsReached c.args.moment now so sn) c.in-Ok-None.field-0-is c.in-Ok-None.ensures.reached)

pub returns-in-Err-clause-turned : goal.returns-in-Err-clause-turned
returns-in-Err-clause-turned g c =
    let so = g.R.Disk.view c.args.rack.now in
    let sn = g.R.Disk.view c.reach.new.site in
    subst (λ (e : FleetError). Refuses e so c.args.self.now looked sn) (sym (c.of.ensures ∙ ap (λ (x : WorldError). fleet_refusal 0 0 x) c.in-Err.ensures.late.0))
    (passes_limit so c.args.self.now (g.met.R.Disk.sound c.args.rack.now) c.requires.between c.requires.goes c.requires.some c.requires.idle c.requires.on_time c.requires.up_to_date
    c.args.moment sn c.requires.next c.if-moment-gt-LAST_MOMENT.false c.in-Err.ensures.late.1)
