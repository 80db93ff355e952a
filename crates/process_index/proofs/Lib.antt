pub mod Determined
pub mod Processes
