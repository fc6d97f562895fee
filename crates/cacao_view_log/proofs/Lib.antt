pub mod FrontLemmas
mod LawLemmas
pub mod LogLemmas
mod ObjectLemmas
pub mod TellLemmas
mod TextLemmas
mod TreeLemmas
