pub mod Short
pub mod Order
pub mod laws
