pub mod Class
pub mod Instruction
pub mod ReadBack
