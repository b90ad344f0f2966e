pub mod Finish
pub mod Tests
