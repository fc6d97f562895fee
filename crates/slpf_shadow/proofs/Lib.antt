pub mod Clearing
pub mod NetLemmas
pub mod Coverage
pub mod Escapes
pub mod FlowLemmas
pub mod RuleLemmas
pub mod Leasts
pub mod Listings
