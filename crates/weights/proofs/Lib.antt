pub mod Lists
pub mod Weights
pub mod Normalised
pub mod Kept
pub mod AboveZero
pub mod Truncated
pub mod Moving
