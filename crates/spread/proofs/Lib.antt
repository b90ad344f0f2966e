pub mod Parents
pub mod Scaled
pub mod Split
pub mod Spreads
