pub mod Fitting
pub mod Filling
pub mod Reading
pub mod Promised
