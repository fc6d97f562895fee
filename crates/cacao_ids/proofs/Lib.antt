pub mod UuidLemmas
pub mod IdLemmas
pub mod StampLemmas
