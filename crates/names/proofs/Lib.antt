pub mod Determined
pub mod Eights
pub mod Fits
