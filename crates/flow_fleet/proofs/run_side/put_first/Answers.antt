use Rattle.std.proofs.Common.{ℕ, subst, sym}
use Rattle.cacao_site.specs.View.{SiteView}
use Rattle.flow_engine.specs.EngineCalls.{Sends}
use Rattle.flow_world_steps.specs.Worlds.{rests}
use Rattle.flow_world_parts.proofs.EngineSide.{put_below, put_others}
use Rattle.flow_fleet_laws.specs.Views.{seen_from}
use Rattle.flow_fleet_steps.specs.declared.error.FleetError.{FleetError}
use Rattle.flow_fleet_steps.specs.declared.error.FleetError.TheVariants as error
use Rattle.flow_fleet.specs.Leads.{Below, RunRefuses}
use Rattle.flow_fleet.proofs.Places.{rest_same}
use Rattle.flow_fleet.proofs.RunSteps.{put_goes, stays_at_rest, wants}
use Rattle.flow_fleet.proofs.run_side.put_first.Goals as goal

pub returns-then-not-awaits-clause-did : goal.returns-then-not-awaits-clause-did
returns-then-not-awaits-clause-did g c = stays_at_rest (Below c.args.place) c.args.place (g.R.Disk.view c.args.rack.now) c.args.engine.now

pub returns-then-not-awaits-clause-rest : goal.returns-then-not-awaits-clause-rest
returns-then-not-awaits-clause-rest g c = rest_same c.args.place (g.R.Disk.view c.args.rack.now)

pub returns-in-Ok-clause-did : goal.returns-in-Ok-clause-did
returns-in-Ok-clause-did g c =
    let so = g.R.Disk.view c.args.rack.now in
    let place = c.args.place in
    let v = c.args.engine.now in
    let sn = g.R.Disk.view c.put_issue.new.rack in
    let w = c.put_issue.new.engine in
    put_goes place v w c.args.issue so sn c.requires.put (subst (λ (n : ℕ). Sends v w c.args.issue n (seen_from place so) (seen_from place sn)) c.requires.now c.in-Ok.ensures.sends)
    (g.met.R.Disk.sound c.args.rack.now) c.requires.work.up c.requires.unput c.in-Ok.ensures.work.up.has_file.engine

pub returns-in-Ok-clause-put : goal.returns-in-Ok-clause-put
returns-in-Ok-clause-put g c =
    let so = g.R.Disk.view c.args.rack.now in
    let place = c.args.place in
    let v = c.args.engine.now in
    let sn = g.R.Disk.view c.put_issue.new.rack in
    let w = c.put_issue.new.engine in
    put_below v w c.args.issue (seen_from place so) (seen_from place sn) c.requires.put
    (subst (λ (n : ℕ). Sends v w c.args.issue n (seen_from place so) (seen_from place sn)) c.requires.now c.in-Ok.ensures.sends)

pub returns-in-Ok-clause-others : goal.returns-in-Ok-clause-others
returns-in-Ok-clause-others g c =
    let so = g.R.Disk.view c.args.rack.now in
    let place = c.args.place in
    let v = c.args.engine.now in
    let sn = g.R.Disk.view c.put_issue.new.rack in
    let w = c.put_issue.new.engine in
    put_others v w c.args.issue (seen_from place so) (seen_from place sn) c.requires.put
    (subst (λ (n : ℕ). Sends v w c.args.issue n (seen_from place so) (seen_from place sn)) c.requires.now c.in-Ok.ensures.sends)

pub returns-in-Err-clause-did : goal.returns-in-Err-clause-did
returns-in-Err-clause-did g c =
    let so = g.R.Disk.view c.args.rack.now in
    let place = c.args.place in
    let v = c.args.engine.now in
    let refused = c.in-Err.ensures.refused in
    subst (λ (e : FleetError). RunRefuses (Below place) e place so v rests (g.R.Disk.view c.put_issue.new.rack)) (sym refused.0)
    (subst (λ (s : SiteView). RunRefuses (Below place) error.Memory place so v rests s) (sym refused.2) (wants (Below place) place so v rests tt))
