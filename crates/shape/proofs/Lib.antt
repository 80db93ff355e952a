pub mod Determined
pub mod NodeShapes
pub mod RowByRow
pub mod RowShapes
pub mod Whole
