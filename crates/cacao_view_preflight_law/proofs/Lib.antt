pub mod BreakLemmas
pub mod ForetoldLemmas
pub mod TextLemmas
