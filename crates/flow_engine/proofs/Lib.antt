pub mod CallLemmas
pub mod ComingLemmas
pub mod EndedPuts
pub mod NextLemmas
pub mod OverdueLemmas
pub mod SendLemmas
pub use Rattle.flow_engine_history.proofs.FlowLemmas
pub use Rattle.flow_engine_history.proofs.SoFarLemmas
