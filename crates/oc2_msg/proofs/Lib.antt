pub mod WordLemmas
pub mod CommandLemmas
pub mod ArgLemmas
pub mod LawLemmas
pub mod ResponseLemmas
