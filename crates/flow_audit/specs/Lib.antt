pub mod Files
pub mod Breaks
pub mod Audits
pub mod Parts
pub mod Index
