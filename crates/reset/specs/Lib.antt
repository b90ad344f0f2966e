pub mod Return
pub mod Tests
