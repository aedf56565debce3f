pub mod Canonical
pub mod Mantissa
pub mod Numeral
pub mod Parts
pub mod Reads
pub mod Spelling
pub mod Spells
pub mod Value
