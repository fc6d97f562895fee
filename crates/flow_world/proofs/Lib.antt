pub mod CloseLemmas
pub mod FaultLemmas
pub mod Quiet
pub mod Steady
pub mod WholeSteps
