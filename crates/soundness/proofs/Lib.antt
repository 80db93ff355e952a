pub mod Determined
pub mod Grouped
