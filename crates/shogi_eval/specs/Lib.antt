pub mod Material
pub mod Evaluated
pub mod Losses
pub mod Exchange
