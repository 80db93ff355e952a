pub mod Blocks
pub mod Kinds
pub mod Meets
pub mod Rows
pub mod Stands
