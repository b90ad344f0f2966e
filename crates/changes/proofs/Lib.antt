pub mod ChangeTables
pub mod Flips
pub mod Packed
pub mod Tables
