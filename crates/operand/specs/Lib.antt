pub mod Operand
pub mod Unique
pub mod laws
