use Rattle.std.specs.Prelude.{◌≡◌}
use Rattle.slpf_actuator.specs.ActuatorView.{IsReady}
use Rattle.test_disk_calls.proofs.filters.hand_all.Given as goal

abbrev pub invariant-loop-command : goal.invariant-loop-command
invariant-loop-command g l = (l.filter.agent ≡ 1) × IsReady l.filter (g.S.Disk.view l.site)
