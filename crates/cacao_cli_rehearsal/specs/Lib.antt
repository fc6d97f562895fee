pub mod Books
pub mod Counts
pub mod NewSites
pub mod Plans
pub mod Rehearsals
pub mod Settings
pub mod Sites
