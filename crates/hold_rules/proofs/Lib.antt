pub mod Determined
pub mod Ends
pub mod Holds
pub mod Rules
pub mod Used
