pub mod Bounds
pub mod Served
pub mod Walked
pub mod Determined
