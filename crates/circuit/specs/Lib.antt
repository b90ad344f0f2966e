pub mod Arguments
pub mod Lines
pub mod Names
pub mod Numbers
pub mod Places
pub mod Runs
pub mod Targets
