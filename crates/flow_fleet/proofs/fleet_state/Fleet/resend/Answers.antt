use Rattle.std.proofs.Common.{refl, arith}
use Rattle.flow_world_steps.specs.Worlds.{looked}
use Rattle.flow_fleet.specs.Leads.{MayResend}
use Rattle.flow_fleet.proofs.Places.{low_place}
use Rattle.flow_fleet.proofs.RecordLemmas.{at_work, between_so, did_so, its_resend, its_run, may_resend, resend_within}
use Rattle.flow_fleet.proofs.fleet_state.Fleet.resend.Goals as goal

pub index_mut-requires : goal.index_mut-requires
index_mut-requires g c =
    let s = c.args.self.now in
    let lt = resend_within s.engines.items s.now c.args.place c.args.moment c.args.issue c.requires.resend in
    omega (arith, lt, s.engines.ok.0)

pub resend-requires : goal.resend-requires
resend-requires g c =
    let s = c.args.self.now in
    let so = g.R.Disk.view c.args.rack.now in
    let place = c.args.place in
    let v = c.index_mut.result.now in
    let there = its_run s.engines.items place v (resend_within s.engines.items s.now place c.args.moment c.args.issue c.requires.resend) c.index_mut.ensures.value in
    record {
      place = low_place s.engines.items place v c.requires.between.works.few there;
      work = at_work so s place v there c.requires.between;
      now = c.requires.between.works.now;
      put = (c.requires.between.settled place v there).put;
      next = its_resend so s place v there c.args.moment c.args.issue c.requires.resend;
      come = c.requires.resend.come;
    }

pub returns-clause-did : goal.returns-clause-did
returns-clause-did g c =
    let s = c.args.self.now in
    let so = g.R.Disk.view c.args.rack.now in
    let sn = g.R.Disk.view c.resend.new.rack in
    let place = c.args.place in
    let v = c.index_mut.result.now in
    let there = its_run s.engines.items place v (resend_within s.engines.items s.now place c.args.moment c.args.issue c.requires.resend) c.index_mut.ensures.value in
    did_so so sn s _ place v c.resend.new.engine there refl refl refl refl refl c.resend.result (MayResend place) looked
    (may_resend so s (g.met.R.Disk.sound c.args.rack.now) c.requires.between c.requires.goes c.requires.some place c.args.moment c.args.issue c.requires.idle c.requires.on_time c.requires.resend) c.resend.ensures.did

pub returns-clause-between : goal.returns-clause-between
returns-clause-between g c =
    let s = c.args.self.now in
    let so = g.R.Disk.view c.args.rack.now in
    let sn = g.R.Disk.view c.resend.new.rack in
    let place = c.args.place in
    let v = c.index_mut.result.now in
    let there = its_run s.engines.items place v (resend_within s.engines.items s.now place c.args.moment c.args.issue c.requires.resend) c.index_mut.ensures.value in
    between_so so sn s _ place v c.resend.new.engine there refl refl refl refl refl refl c.resend.result c.resend.ensures.put c.resend.ensures.work c.resend.ensures.rest c.requires.between
