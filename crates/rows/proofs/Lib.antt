pub mod Blocks
pub mod Bytes
pub mod Determined
pub mod Fields
pub mod KindNumbers
pub mod Meeting
pub mod Parts
pub mod Writes
