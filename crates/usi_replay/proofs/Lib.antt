pub mod Rounds
pub mod Running
pub mod Transcripts
pub mod Names
pub mod Ends
pub mod Reading
