pub mod Reading
pub mod Packing
