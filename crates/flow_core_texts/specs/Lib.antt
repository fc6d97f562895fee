pub mod ContentFalls
pub mod Contents
pub mod Phrases
pub mod Questions
pub mod Wordings
