pub mod Literal
pub mod Truth
pub mod Settled
pub mod Formula
pub mod Values
pub mod Propagation
pub mod Raised
pub mod DistinctVariables
