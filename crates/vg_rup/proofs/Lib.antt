pub mod Reading
pub mod Passing
pub mod Checking
pub mod Exact
pub mod Knowing
