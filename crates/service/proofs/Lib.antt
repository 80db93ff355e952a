pub mod Verdicts
pub mod Demands
pub mod Determined
