pub mod Below
pub mod Finds
