pub mod Digits
pub mod Wholes
pub mod Decimals
pub mod Bounds
