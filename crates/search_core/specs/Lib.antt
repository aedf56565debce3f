pub mod Values
pub mod Bounds
pub mod Outcomes
pub mod Inner
pub mod State
pub mod Analysis
