pub mod Keeps
pub mod Indices
pub mod ByTime
