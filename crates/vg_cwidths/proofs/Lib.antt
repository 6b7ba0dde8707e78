pub mod Octets
pub mod Operations
pub mod Meanings
