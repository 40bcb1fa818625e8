pub mod Stack
pub mod Entered
pub mod Progress
pub mod Calls
pub mod SearchCalls
pub mod Slices
pub mod SlicedSearch
pub mod Ranked
