pub mod Encoded
pub mod Overs
pub mod Outputs
pub mod Records
