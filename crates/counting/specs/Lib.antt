pub mod Finds
pub mod Shares
pub mod Memory
pub mod InCache
