pub mod Counts
pub mod Determined
pub mod Written
