pub mod FrameWords
pub mod Values
pub mod Scenes
pub mod Step
pub mod Places
pub mod Outcomes
pub mod Expiring
pub mod Worked
