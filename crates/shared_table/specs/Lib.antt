pub mod Keys
pub mod KeyLaws
pub mod Recent
pub mod Uses
pub mod Packed
