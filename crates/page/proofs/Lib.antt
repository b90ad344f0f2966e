pub mod Pieces
pub mod Answers
