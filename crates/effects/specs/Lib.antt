pub mod Shape
pub mod Table
pub mod Effects
pub mod Check
pub mod laws
