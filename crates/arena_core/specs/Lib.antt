pub mod Arena
pub mod Chains
pub mod Links
