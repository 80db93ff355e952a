pub mod Stories
pub mod Telling
pub mod RecordRules
pub mod WalkRules
pub mod HoldRules
pub mod CallRules
pub mod SoundRules
pub mod Rules
