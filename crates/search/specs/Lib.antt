pub mod Callers
pub mod Rows
