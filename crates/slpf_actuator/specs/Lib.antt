pub mod ActuatorCalls
pub mod Errors
pub mod Inside
pub use Rattle.slpf_actuator_acts.specs.ActLists
pub use Rattle.slpf_actuator_acts.specs.ActuatorView
pub use Rattle.slpf_actuator_acts.specs.Damage
pub use Rattle.slpf_actuator_acts.specs.Laws
