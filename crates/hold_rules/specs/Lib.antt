pub mod Chains
pub mod Placed
pub mod Used
