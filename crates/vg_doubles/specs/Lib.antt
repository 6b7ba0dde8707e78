pub mod Plan
pub mod Calls
pub mod Named
pub mod Pages
pub mod Memory
pub mod MemorySink
