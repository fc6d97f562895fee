use Rattle.flow_core_setup.proofs.SetupRunnable.{accepted_is_runnable}
use Rattle.flow_core_setup.proofs.setup_laws.accepted_is_runnable.Goals as goal

pub returns : goal.returns
returns c = accepted_is_runnable c.sound_gives.ensures
