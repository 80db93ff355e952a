pub mod TableRows
pub mod FieldTests
pub mod Determined
