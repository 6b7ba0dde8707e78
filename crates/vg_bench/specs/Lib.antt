pub mod Statuses
pub mod Sizes
