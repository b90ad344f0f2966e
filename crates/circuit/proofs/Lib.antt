pub mod Examples
mod Keys
mod Reading
mod RunEnds
mod SameBytes
mod Spelled
mod Steps
pub mod TargetLists
