pub mod Leaving
pub mod Places
pub mod Settled
