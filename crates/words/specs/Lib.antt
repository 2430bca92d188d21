pub mod Le
pub mod Bytes
pub mod Word
pub mod Lists
pub mod laws
