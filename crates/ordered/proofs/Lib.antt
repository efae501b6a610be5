pub mod Fronts
pub mod Calls
