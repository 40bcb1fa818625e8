pub mod Memory
pub mod Below
pub mod Telling
pub mod Endpoints
