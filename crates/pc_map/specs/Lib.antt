pub mod Boundary
pub mod Relocate
pub mod laws
