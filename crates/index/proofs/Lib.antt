pub mod Apart
pub mod Buckets
pub mod Descents
pub mod Determined
pub mod Entries
pub mod Places
