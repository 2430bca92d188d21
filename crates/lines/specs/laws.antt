pub mod Below
pub mod Moved
pub mod Moving
pub mod Lined
pub mod Rising
