pub mod Loop
pub mod Takes
pub mod FieldLemmas
pub mod RecordLemmas
pub mod ReadLemmas
pub mod EntryLemmas
