pub mod Jump
pub mod Pass
pub mod Answer
pub mod Clean
