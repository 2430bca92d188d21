mod Anchored
pub mod Classes
mod Controlling
mod Numbering
mod Pushing
mod Running
mod Walked
