pub mod Matched
pub mod Rates
pub mod Counts
pub mod Copies
pub mod Outgrowing
