pub mod PairLemmas
pub mod LinkLemmas
pub mod ReadLemmas
pub mod UseLemmas
