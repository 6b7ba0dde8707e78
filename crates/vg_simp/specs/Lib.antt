pub mod Sameness
pub mod Closed
pub mod Marking
pub mod Passing
pub mod Ranges
pub mod Sums
pub mod Places
pub mod Knowing
