pub mod Runs
pub mod Ends
pub mod Parts
pub mod Answers
pub mod Examples
