pub mod Runs
pub mod ServeFaults
pub mod Counts
pub mod Mates
