pub mod Again
pub mod LaidOut
pub mod Units
pub mod Laying
pub mod laws
