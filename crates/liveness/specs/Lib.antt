pub mod Live
pub mod Dead
pub mod laws
