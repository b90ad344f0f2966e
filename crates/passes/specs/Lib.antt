pub mod Going
pub mod Turns
