use Rattle.oc2_wire.proofs.Prefixes.{each_goes, each_nothing, serves_goes}
use Rattle.oc2_wire.proofs.Served.{each_kept, each_on, each_own, each_put, each_steady, each_took}
use Rattle.oc2_wire.proofs.engine_end.serve.Goals as goal

pub returns-clause-own : goal.returns-clause-own
returns-clause-own g c =
    each_own c.args.setup c.args.run c.args.most c.args.answers.now (g.S.Disk.view c.args.site.now) (g.S.Disk.view c.hold.new.site) c.hold.result c.hold.ensures.refused

pub returns-clause-steady : goal.returns-clause-steady
returns-clause-steady g c =
    each_steady c.args.setup c.args.run c.args.most c.args.answers.now (g.S.Disk.view c.args.site.now) (g.S.Disk.view c.hold.new.site) c.hold.result c.hold.ensures.served c.hold.ensures.refused

pub returns-clause-disk : goal.returns-clause-disk
returns-clause-disk g c =
    each_on c.args.setup c.args.run c.args.most c.args.answers.now (g.S.Disk.view c.args.site.now) (g.S.Disk.view c.hold.new.site) c.hold.result c.hold.ensures.served c.hold.ensures.refused

pub returns-clause-took : goal.returns-clause-took
returns-clause-took g c =
    each_took c.args.setup c.args.run c.args.most c.args.answers.now (g.S.Disk.view c.args.site.now) (g.S.Disk.view c.hold.new.site) c.hold.result c.hold.ensures.served c.hold.ensures.refused

pub returns-clause-put : goal.returns-clause-put
returns-clause-put g c =
    each_put c.args.setup c.args.run c.args.most c.args.answers.now (g.S.Disk.view c.args.site.now) (g.S.Disk.view c.hold.new.site) c.hold.result c.hold.ensures.served c.hold.ensures.refused

pub returns-clause-kept : goal.returns-clause-kept
returns-clause-kept g c =
    each_kept c.args.setup c.args.run c.args.most c.args.answers.now (g.S.Disk.view c.args.site.now) (g.S.Disk.view c.hold.new.site) c.engine_law.ensures.steps c.engine_law.ensures.begins c.engine_law.ensures.opening
    c.hold.result c.hold.ensures.served c.hold.ensures.refused (g.met.S.Disk.sound c.args.site.now)

pub returns-clause-goes_on : goal.returns-clause-goes_on
returns-clause-goes_on g c = λ told.
    each_goes c.args.run c.args.most (g.S.Disk.view c.args.site.now) (g.S.Disk.view c.hold.new.site) (g.met.S.Disk.sound c.args.site.now) (g.met.S.Disk.sound c.hold.new.site) told (returns-clause-kept g c told)
    c.args.setup c.args.answers.now c.hold.result c.hold.ensures.served c.hold.ensures.refused

pub returns-clause-durably : goal.returns-clause-durably
returns-clause-durably g c = λ told serves.
    serves_goes c.args.run c.args.most (g.S.Disk.view c.args.site.now) (g.S.Disk.view c.hold.new.site) (g.met.S.Disk.sound c.args.site.now) (g.met.S.Disk.sound c.hold.new.site) told (returns-clause-kept g c told)
    c.args.setup c.args.answers.now serves

pub returns-clause-nothing : goal.returns-clause-nothing
returns-clause-nothing g c =
    each_nothing c.args.run c.args.most (g.S.Disk.view c.args.site.now) (g.S.Disk.view c.hold.new.site) (g.met.S.Disk.sound c.args.site.now) (g.met.S.Disk.sound c.hold.new.site) (returns-clause-kept g c) c.args.setup c.hold.result
