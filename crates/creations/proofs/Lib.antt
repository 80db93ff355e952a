pub mod Determined
pub mod Entered
