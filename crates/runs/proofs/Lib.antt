pub mod Onward
pub mod Keeping
pub mod Known
pub mod Determined
