pub mod Large
pub mod Closest
pub mod Scaled
pub mod Patterns
pub mod Sizes
pub mod Exacts
pub mod Far
