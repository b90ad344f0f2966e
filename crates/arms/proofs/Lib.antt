pub mod Tables
pub mod Qubits
