pub mod Qubits
