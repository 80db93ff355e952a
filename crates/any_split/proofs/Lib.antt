pub mod AnySplit
pub mod Listings
pub mod PartCalls
pub mod Rests
