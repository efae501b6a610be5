pub mod Slices
pub mod Memory
