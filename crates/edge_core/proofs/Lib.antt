pub mod Copied
pub mod Sends
pub mod Sent
pub mod SoFar
mod Walks
pub mod Worked
