pub mod Ranks
pub mod Fault
