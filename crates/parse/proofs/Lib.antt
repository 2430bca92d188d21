pub mod Sweeping
pub mod Passing
