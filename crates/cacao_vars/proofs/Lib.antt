pub mod ScopeLemmas
pub mod ReferenceLemmas
pub mod FirstLemmas
pub mod OrderLemmas
pub mod LawLemmas
pub mod SearchLemmas
pub mod OpenLemmas
