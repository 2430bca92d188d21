pub mod Found
pub mod Function
pub mod Laid
pub mod Same
pub mod Unit
