pub mod KindLemmas
pub mod ReadLemmas
pub mod StandLemmas
