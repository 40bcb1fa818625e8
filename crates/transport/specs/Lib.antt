pub mod Report
pub mod Asked
pub mod Moves
pub mod Wires
