pub mod Computed
pub mod Unit
pub mod Starred
pub mod Runs
pub mod Apart
pub mod DeskRuns
pub mod Charges
