pub mod Copying
pub mod Determined
pub mod Lacking
pub mod Planning
pub mod Room
