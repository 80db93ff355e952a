pub mod Determined
pub mod Digits
pub mod LineBytes
pub mod Runs
