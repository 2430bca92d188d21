pub mod Size
pub mod UnitLaws
pub mod Region
pub mod Refusals
