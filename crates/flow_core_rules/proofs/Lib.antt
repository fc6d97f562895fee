pub mod ExampleRuns
mod Examples
mod ExampleBook
mod ExampleQuery
mod ExampleRows
pub mod ShownLemmas
pub mod PlacedLemmas
pub mod RunLemmas
pub mod OneRunLemmas
pub mod NotStuck
pub mod LineLemmas
pub mod QuietLemmas
pub mod HereLemmas
pub mod ShapeLemmas
pub mod IssueLemmas
pub mod EarlierLemmas
pub mod TaskLemmas
pub mod OrderLemmas
pub mod EndLemmas
pub mod FitLemmas
pub mod WaitLemmas
pub mod SaneLemmas
pub mod ScopeLemmas
pub mod SaneRuns
pub mod CanEndLemmas
pub mod RangeLemmas
pub mod MoveLemmas
pub mod KeepLemmas
pub mod WaitingLemmas
