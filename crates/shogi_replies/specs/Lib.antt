pub mod ReplyInfo
pub mod Escapes
pub mod Threats
pub mod Passes
