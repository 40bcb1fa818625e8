pub mod LineLaws
pub mod Waiting
pub mod CommandLaws
pub mod Cutting
pub mod OneLines
