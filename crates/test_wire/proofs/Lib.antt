pub mod Changes
pub mod Chunks
pub mod Returning
