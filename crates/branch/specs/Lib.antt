pub mod Flips
pub mod Made
pub mod Onto
pub mod Same
