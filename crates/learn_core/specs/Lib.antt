pub mod Numbers
pub mod Satisfies
pub mod Learning
