pub mod Became
pub mod Exchanged
pub mod Holds
pub mod Within
