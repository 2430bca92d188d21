pub mod Refusal
pub mod Size
pub mod Entry
pub mod Layout
pub mod Result
pub mod laws
