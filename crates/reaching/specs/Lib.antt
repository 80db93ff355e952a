pub mod Behind
pub mod Ready
pub mod Ways
