use Rattle.std.proofs.Common.{◌-◌, List, ap, sym}
use Rattle.std.specs.Prelude.{slice_set}
use Rattle.slpf_actuator.specs.ActuatorView.{ActuatorView}
use Rattle.flow_world_parts.specs.Acting.{OneAnswers}
use Rattle.flow_world_parts.proofs.ActSteps.{filter_answers, filter_of, found, may_refuse_all, ready_after}
use Rattle.flow_world_parts.proofs.filters.Filters.act.Goals as goal

pub handle-requires-clause-own : goal.handle-requires-clause-own
handle-requires-clause-own g c =
    let there = found c.self.inside.list.items c.args.self.now c.args.parcel.now.agent c.index_mut-filter.result.now c.self.view_is c.requires.addressed.low c.requires.here c.index_mut-filter.ensures.value in
    let is = filter_of c.args.self.now (g.S.Disk.view c.args.site.now) c.args.parcel.now.agent c.index_mut-filter.result.now c.requires.filters c.requires.addressed.low there in
    sym is.of_agent

pub handle-requires-clause-ready : goal.handle-requires-clause-ready
handle-requires-clause-ready g c =
    let there = found c.self.inside.list.items c.args.self.now c.args.parcel.now.agent c.index_mut-filter.result.now c.self.view_is c.requires.addressed.low c.requires.here c.index_mut-filter.ensures.value in
    let is = filter_of c.args.self.now (g.S.Disk.view c.args.site.now) c.args.parcel.now.agent c.index_mut-filter.result.now c.requires.filters c.requires.addressed.low there in
    is.ready

pub returns-clause-answers : goal.returns-clause-answers
returns-clause-answers g c =
    let there = found c.self.inside.list.items c.args.self.now c.args.parcel.now.agent c.index_mut-filter.result.now c.self.view_is c.requires.addressed.low c.requires.here c.index_mut-filter.ensures.value in
    let is = filter_of c.args.self.now (g.S.Disk.view c.args.site.now) c.args.parcel.now.agent c.index_mut-filter.result.now c.requires.filters c.requires.addressed.low there in
    let one : OneAnswers c.handle.result c.args.parcel.now c.args.now (g.S.Disk.view c.args.site.now) (g.S.Disk.view c.handle.new.site) c.args.self.now
    (slice_set c.self.inside.list.items (c.args.parcel.now.agent - 1) c.handle.new.self) = record {
      v = c.index_mut-filter.result.now;
      w = c.handle.new.self;
      there = there;
      answers = filter_answers c.args.parcel.now c.args.now (g.S.Disk.view c.args.site.now) (g.S.Disk.view c.handle.new.site) c.index_mut-filter.result.now c.handle.new.self is c.handle.result
          c.handle.ensures.acted c.handle.ensures.repeated c.handle.ensures.refused c.handle.ensures.broken c.handle.ensures.disk c.handle.ensures.full c.handle.ensures.no_other;
      others = ap (λ (l : List ActuatorView). slice_set l (c.args.parcel.now.agent - 1) c.handle.new.self) c.self.view_is;
      agent = c.handle.ensures.agent;
      ready = c.handle.ensures.ready;
    } in
    one

pub returns-clause-filters : goal.returns-clause-filters
returns-clause-filters g c =
    let there = found c.self.inside.list.items c.args.self.now c.args.parcel.now.agent c.index_mut-filter.result.now c.self.view_is c.requires.addressed.low c.requires.here c.index_mut-filter.ensures.value in
    let is = filter_of c.args.self.now (g.S.Disk.view c.args.site.now) c.args.parcel.now.agent c.index_mut-filter.result.now c.requires.filters c.requires.addressed.low there in
    let one : OneAnswers c.handle.result c.args.parcel.now c.args.now (g.S.Disk.view c.args.site.now) (g.S.Disk.view c.handle.new.site) c.args.self.now
    (slice_set c.self.inside.list.items (c.args.parcel.now.agent - 1) c.handle.new.self) = record {
      v = c.index_mut-filter.result.now;
      w = c.handle.new.self;
      there = there;
      answers = filter_answers c.args.parcel.now c.args.now (g.S.Disk.view c.args.site.now) (g.S.Disk.view c.handle.new.site) c.index_mut-filter.result.now c.handle.new.self is c.handle.result
          c.handle.ensures.acted c.handle.ensures.repeated c.handle.ensures.refused c.handle.ensures.broken c.handle.ensures.disk c.handle.ensures.full c.handle.ensures.no_other;
      others = ap (λ (l : List ActuatorView). slice_set l (c.args.parcel.now.agent - 1) c.handle.new.self) c.self.view_is;
      agent = c.handle.ensures.agent;
      ready = c.handle.ensures.ready;
    } in
    ready_after c.args.parcel.now c.args.now (g.S.Disk.view c.args.site.now) (g.S.Disk.view c.handle.new.site) c.args.self.now
    (slice_set c.self.inside.list.items (c.args.parcel.now.agent - 1) c.handle.new.self) c.requires.filters c.requires.addressed.low c.handle.result one

pub returns-clause-may : goal.returns-clause-may
returns-clause-may g c =
    let there = found c.self.inside.list.items c.args.self.now c.args.parcel.now.agent c.index_mut-filter.result.now c.self.view_is c.requires.addressed.low c.requires.here c.index_mut-filter.ensures.value in
    let is = filter_of c.args.self.now (g.S.Disk.view c.args.site.now) c.args.parcel.now.agent c.index_mut-filter.result.now c.requires.filters c.requires.addressed.low there in
    may_refuse_all c.handle.result c.index_mut-filter.result.now.broken is.whole c.handle.ensures.broken c.handle.ensures.no_other
