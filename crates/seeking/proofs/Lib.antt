pub mod Walk
pub mod Noting
pub mod Rows
pub mod Seeking
