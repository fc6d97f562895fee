use Rattle.oc2_wire.proofs.handing.is_sound.Goals as goal

pub returns : goal.returns
returns g c = g.met.D.Disk.sound c.args.disk.now
