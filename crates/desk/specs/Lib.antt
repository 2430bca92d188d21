pub mod Desk
pub mod Answer
pub mod Charge
pub mod Likewise
pub mod Rewritten
pub mod Charged
pub mod laws
