pub mod Sameness
pub mod Blocks
pub mod Objects
pub mod Laws
