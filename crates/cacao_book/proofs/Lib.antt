pub mod PlaceLemmas
pub mod OrderLemmas
pub mod ArgumentLemmas
pub mod LimitLemmas
pub mod Examples
