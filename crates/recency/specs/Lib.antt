pub mod Rules
pub mod ByTime
