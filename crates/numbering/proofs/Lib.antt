pub mod Keeping
pub mod Folding
pub mod Classes
pub mod Walking
pub mod Starting
pub mod Loop
