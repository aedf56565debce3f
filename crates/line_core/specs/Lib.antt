pub mod Texts
pub mod Number
pub mod Options
pub mod Position
pub mod Commands
pub mod Walk
pub mod Command
pub mod Line
