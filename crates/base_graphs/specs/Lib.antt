pub mod Closure
pub mod Tables
pub mod Words
pub mod Searching
pub mod Reversing
pub mod Ranks
pub mod Nests
