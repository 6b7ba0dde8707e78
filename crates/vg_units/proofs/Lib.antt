pub mod Literals
pub mod Listing
pub mod Watching
pub mod Visiting
pub mod Keeping
pub mod Reaching
pub mod Assuming
