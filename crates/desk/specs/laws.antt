pub mod Copying
pub mod Step
pub mod Stands
pub mod Execution
pub mod Advance
pub mod Priced
pub mod Spent
