pub mod Determined
pub mod Removed
