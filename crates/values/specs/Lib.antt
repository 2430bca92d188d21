pub mod Fold
pub mod Values
pub mod Number
pub mod laws
