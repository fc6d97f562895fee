pub mod AloneLemmas
pub mod BackLemmas
pub mod BeneathLemmas
pub mod FewLemmas
pub mod LeaveLemmas
pub mod OutcomeLemmas
pub mod OverLemmas
pub mod PairLemmas
pub mod ServeLemmas
pub mod UseLemmas
pub use Rattle.cacao_cli_starts.proofs.ReadyLemmas
pub use Rattle.oc2_wire.proofs.PrefixPrefixes as Prefixes
