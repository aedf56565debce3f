pub mod Plain
pub mod Formula
pub mod Sizes
