pub mod Asked
pub mod Reported
pub mod Transfers
