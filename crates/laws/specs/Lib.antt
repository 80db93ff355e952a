pub mod Each
pub mod Clears
