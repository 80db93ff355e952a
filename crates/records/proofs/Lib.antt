pub mod Readings
pub mod Packings
pub mod Determined
pub mod ThereAndBack
