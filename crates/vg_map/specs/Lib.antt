pub mod Hash
pub mod Map
pub mod Slots
pub mod Search
