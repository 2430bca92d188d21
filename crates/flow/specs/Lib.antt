pub mod Branch
pub mod Block
pub mod Reach
pub mod Loop
pub mod laws
