pub mod Boundaries
pub mod Relocated
pub mod Moved
pub mod Listed
pub mod Retaining
pub mod View
pub mod Movable
