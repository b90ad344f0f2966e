pub mod Arranged
pub mod Distinct
pub mod Drained
pub mod Inverse
pub mod Walked
