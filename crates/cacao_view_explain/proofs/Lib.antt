pub mod BreakLemmas
pub mod EndLemmas
pub mod NameLemmas
pub mod PlainLemmas
pub mod UnreadLemmas
