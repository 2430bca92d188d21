pub mod Opcode
pub mod Class
pub mod Instruction
pub mod laws
