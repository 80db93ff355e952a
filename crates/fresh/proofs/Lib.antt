pub mod Determined
pub mod Made
pub mod Untouched
