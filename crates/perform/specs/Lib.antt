pub mod Encoding
pub mod Records
pub mod Said
