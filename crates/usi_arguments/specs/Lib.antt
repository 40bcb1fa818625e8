pub mod CommandLine
pub mod Setup
pub mod Texts
pub mod Answers
pub mod Refusals
