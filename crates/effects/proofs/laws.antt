pub mod ByClass
pub mod Plain
pub mod Ranges
pub mod Single
