pub mod Entries
pub mod Masks
pub mod Orders
pub mod Passes
pub mod Qubits
pub mod Rows
pub mod Turned
