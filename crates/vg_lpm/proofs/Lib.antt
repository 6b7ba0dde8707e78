pub mod Runs
pub mod Filling
pub mod Links
pub mod Walks
pub mod Insertion
pub mod Choice
pub mod Lookups
