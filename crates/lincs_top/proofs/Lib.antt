pub mod Came
pub mod Ends
pub mod Running
mod Then
mod SayLemmas
mod Judging
mod Headline
mod Learning
mod Rehearsing
