pub mod FirstSite
pub mod LifeLemmas
