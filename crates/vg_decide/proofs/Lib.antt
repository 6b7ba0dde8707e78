pub mod Passing
pub mod Refuting
