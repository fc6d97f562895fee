pub mod BeginLemmas
pub mod AcceptLemmas
pub mod LineLemmas
pub mod OneAnswer
pub mod ReplayLemmas
pub mod ReportLemmas
