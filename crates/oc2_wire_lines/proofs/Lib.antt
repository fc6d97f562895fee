pub mod CutLemmas
pub mod LineLemmas
pub mod LawLemmas
pub mod LinesCut
