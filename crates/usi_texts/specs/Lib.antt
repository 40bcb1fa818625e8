pub mod SetupRange
pub mod Setup
pub mod Options
pub mod Texts
pub mod PositionCommand
