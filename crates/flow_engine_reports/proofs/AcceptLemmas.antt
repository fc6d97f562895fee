-- What texts give is one, or none where they are refused.
pub use Rattle.flow_core.proofs.BeginLemmas.{accepted_one as accepted-one, not_accepted as not-accepted}
