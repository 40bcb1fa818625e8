pub mod Pointers
pub mod Replying
