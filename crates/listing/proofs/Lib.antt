pub mod Determined
pub mod Nexts
pub mod PartFacts
pub mod PartRuns
pub mod StepCases
pub mod StepFacts
