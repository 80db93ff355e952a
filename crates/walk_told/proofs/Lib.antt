pub mod Stored
pub mod Reached
pub mod Determined
