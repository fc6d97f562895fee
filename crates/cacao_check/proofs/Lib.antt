pub mod WalkLemmas
pub mod UriLemmas
pub mod RuleLemmas
pub mod HeadLemmas
pub mod LawLemmas
pub mod FirstLemmas
