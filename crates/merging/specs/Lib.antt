pub mod Fates
pub mod Progress
