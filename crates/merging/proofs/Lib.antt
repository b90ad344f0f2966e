pub mod Merge
pub mod Went
pub mod Changed
