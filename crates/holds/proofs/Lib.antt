pub mod Determined
pub mod Dropping
pub mod Rooted
pub mod Tests
pub mod Towards
pub mod Ways
