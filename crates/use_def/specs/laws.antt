pub mod Sets
pub mod Touched
pub mod Wordwise
pub mod Free
pub mod SingleSets
pub mod BranchSets
pub mod PlainSets
