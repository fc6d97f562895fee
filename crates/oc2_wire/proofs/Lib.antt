pub mod ActCounts
pub mod AnswerKept
pub mod Answered
pub mod LentWires
pub mod LinkTold
pub mod Prefixes
pub mod Reading
pub mod Retell
pub mod ServeActs
pub mod ServeEnds
pub mod ServeLoop
pub mod ServeSteps
pub mod Served
pub mod ServedLeft
pub mod Taking
pub mod TurnLemmas
pub use Rattle.flow_world_laws.proofs.Prefixes as PrefixPrefixes
