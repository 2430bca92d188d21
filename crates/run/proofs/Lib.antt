pub mod Given
pub mod Stores
pub mod laws
