pub mod PairLemmas
pub mod ListedLemmas
pub mod FirstLemmas
pub mod LeastLemmas
pub mod MomentLemmas
