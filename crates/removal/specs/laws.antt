pub mod Jumping
pub mod KeptWork
pub mod Retained
pub mod RetainedWork
pub mod Cleared
pub mod Next
pub mod PlainHints
pub mod JumpRounds
