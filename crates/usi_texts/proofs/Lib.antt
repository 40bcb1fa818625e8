pub mod Appends
pub mod SetupLaws
pub mod PositionLaws
