pub mod AnswerLaws
pub mod AnswerReading
pub mod Answers
