pub mod AnswerEnds
pub mod AnswerExamples
pub mod AnswerLawLemmas
pub mod AnswerLemmas
pub mod CutLemmas
pub mod ToldLines
