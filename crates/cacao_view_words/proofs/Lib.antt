pub mod OptionLemmas
pub mod TopicLemmas
