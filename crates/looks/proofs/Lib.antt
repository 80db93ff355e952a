pub mod Determined
pub mod SeenOrHeld
