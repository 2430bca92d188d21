pub mod CleanAnswer
pub mod laws
