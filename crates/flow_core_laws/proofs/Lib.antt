pub mod Somes
pub mod OwnEdits
pub mod OwnRecords
pub mod OwnTask
pub mod Children
pub mod StaysEnabled
pub mod FilledLemmas
mod SameBytes
mod ParallelExamples
mod Acts
mod Parts
mod Sides
mod Homes
mod Joins
mod RunStates
mod SameReads
mod SameWalks
mod SameIssues
mod SameAnswers
mod Tasks
mod Roots
mod Seen
mod Frame
mod Orders
mod Exchanged
mod ReadExamples
mod Raised
mod RaisedWalks
mod Inside
mod RaisedFrame
mod Results
mod BothSend
mod HomeLemmas
mod LinkLemmas
mod ScopedEdits
mod ScopedRecords
mod ScopedRuns
mod AcceptedRules
mod UsedNames
mod TextLemmas
mod TextEdits
mod TextRules
mod TextRecords
mod TextRuns
