pub mod Determined
pub mod Entering
pub mod Taken
pub mod Testing
