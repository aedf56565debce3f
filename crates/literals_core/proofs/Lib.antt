mod Worked
pub mod Members
pub mod Negation
pub mod Truth
pub mod Settled
pub mod Values
pub mod Raised
