pub mod PassAnswer
pub mod laws
