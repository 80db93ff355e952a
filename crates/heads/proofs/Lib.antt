pub mod HeadBytes
pub mod Determined
