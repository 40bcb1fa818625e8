pub mod Analogies
pub mod PassedReplies
pub mod SpareMoves
