pub mod Buckets
pub mod Indexed
