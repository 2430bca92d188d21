pub mod Writing
pub mod laws
