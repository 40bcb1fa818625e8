pub mod Slots
pub mod Bounds
pub mod LendsSlot
pub mod Lends
pub mod Order
