pub mod ApartLemmas
pub mod AreaLemmas
pub mod DrawLemmas
pub mod HomeLemmas
pub mod JoinLemmas
pub mod LawLemmas
pub mod LineLemmas
pub mod PlacingLemmas
pub mod QuoteLemmas
pub mod TallyLemmas
mod CourseLemmas
mod CutLemmas
mod NoteLemmas
mod RunLemmas
mod RunLineLemmas
mod SentLemmas
mod TreeLemmas
