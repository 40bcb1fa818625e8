pub mod PlaceLaws
pub mod RecentLaws
pub mod UseLaws
pub mod PackedLaws
