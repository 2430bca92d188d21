pub mod DeskNumbers
pub mod Numbers
pub mod OperandNumbers
pub mod ShortNumbers
pub mod laws
