pub mod Noting
pub mod Talking
pub mod Writing
pub mod Working
pub mod Lining
pub mod Between
pub mod Remembering
