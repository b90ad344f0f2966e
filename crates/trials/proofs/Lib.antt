pub mod Places
pub mod Turns
pub mod SoFar
pub mod Slices
