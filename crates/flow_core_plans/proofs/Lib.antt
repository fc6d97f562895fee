pub mod AddingLemmas
pub mod AnswerLemmas
pub mod EnteredLemmas
pub mod StandLemmas
pub mod WaitLemmas
