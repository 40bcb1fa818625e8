pub mod Calls
pub mod Noted
pub mod Dialogue
pub mod Saying
pub mod Stdio
pub mod Remembered
