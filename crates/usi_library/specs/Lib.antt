pub mod Held
pub mod Setups
pub mod Calls
pub mod Numbers
pub mod Replies
