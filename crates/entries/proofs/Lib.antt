pub mod Emptied
pub mod Exchange
pub mod Moved
pub mod Slots
pub mod Turns
