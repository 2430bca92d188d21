pub mod Placing
pub mod Ready
pub mod Later
pub mod Cleaning
pub mod First
