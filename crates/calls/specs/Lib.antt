pub mod Instructions
pub mod Stores
pub mod Loss
pub mod Outgrown
