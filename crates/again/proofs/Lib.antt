pub mod Writing
pub mod Answering
pub mod Laying
pub mod Units
pub mod laws
