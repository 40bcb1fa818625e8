pub mod Script
pub mod Replayed
pub mod Seen
pub mod Sessions
pub mod Playback
