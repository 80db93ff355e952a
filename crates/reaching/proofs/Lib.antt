pub mod Accepting
pub mod Cells
pub mod Determined
pub mod Judging
pub mod Walking
pub mod Ways
