pub mod Mates
pub mod Stages
pub mod Bounds
