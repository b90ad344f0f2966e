pub mod Words
pub mod Restored
pub mod Worked
