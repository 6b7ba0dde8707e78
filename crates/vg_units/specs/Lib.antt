pub mod Codes
pub mod Levels
pub mod Lists
pub mod Propagating
pub mod Searching
pub mod Trails
pub mod Watching
