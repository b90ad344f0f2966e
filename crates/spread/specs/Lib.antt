pub mod Branches
pub mod Spread
