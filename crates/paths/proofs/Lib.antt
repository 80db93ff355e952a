pub mod Parts
pub mod Names
pub mod Fronts
pub mod Positions
pub mod Validity
pub mod Splits
pub mod Determined
