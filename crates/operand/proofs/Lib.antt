pub mod Testing
pub mod Tipping
pub mod Comparing
pub mod Bits
pub mod Candidates
pub mod Zeros
pub mod Newton
pub mod Factors
