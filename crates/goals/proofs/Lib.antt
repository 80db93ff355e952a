pub mod Blanks
pub mod Back
pub mod Determined
