-- What is shown after one record more.
pub use Rattle.flow_core.proofs.FlowLemmas.{begin_is}
pub use Rattle.flow_core.proofs.ReachedLemmas.{leads_placed}
pub use Rattle.flow_core.proofs.TakenLemmas.{so_far_more}
