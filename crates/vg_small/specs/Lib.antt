pub mod Joining
pub mod Meaning
pub mod Reader
pub mod Spelling
pub mod Words
