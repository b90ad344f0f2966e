pub mod Brings
pub mod Leaves
pub mod Livened
pub mod Returning
pub mod Revived
