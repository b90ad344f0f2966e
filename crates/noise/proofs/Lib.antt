pub mod Ends
pub mod Noised
pub mod Ran
