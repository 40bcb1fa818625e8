pub mod Minimax
pub mod Entries
pub mod Window
