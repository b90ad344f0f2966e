pub mod Parts
pub mod Rows
pub mod Entry
pub mod Begun
