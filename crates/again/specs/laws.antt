pub mod Entries
pub mod Laid
pub mod Function
pub mod Result
pub mod Bytes
pub mod Narrow
pub mod Lines
pub mod Found
