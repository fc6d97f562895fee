pub mod Trees
pub mod Grammar
pub mod Reading
pub mod Truth
pub mod Names
pub mod Printing
pub mod Worths
pub mod Parts
