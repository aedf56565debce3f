pub mod Rehearsed
pub mod Outcome
