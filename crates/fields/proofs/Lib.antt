pub mod Values
pub mod Passes
pub mod Pieces
pub mod Lines
pub mod Tested
