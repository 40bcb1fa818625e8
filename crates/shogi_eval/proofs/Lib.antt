pub mod Bounds
pub mod ByKind
pub mod Gains
pub mod Opening
pub mod RoleGains
