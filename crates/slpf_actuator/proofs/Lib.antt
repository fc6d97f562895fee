pub mod ErrorLemmas
pub mod HandleLemmas
pub use Rattle.slpf_actuator_acts.proofs.ActLemmas
pub use Rattle.slpf_actuator_acts.proofs.Damages
