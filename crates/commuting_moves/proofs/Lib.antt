pub mod Orders
pub mod PawnDrops
pub mod StillLegal
pub mod Worth
pub mod Kept
