pub mod Arms
pub mod Determined
