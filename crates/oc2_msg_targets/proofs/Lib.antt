pub mod PartLemmas
pub mod FeatureLemmas
pub mod PresentLemmas
pub mod ValueLemmas
pub mod TargetLemmas
pub mod PutLemmas
