pub mod NeverAbove
pub mod Likewise
pub mod Rewritten
pub mod laws
