pub mod Assignment
pub mod Fault
pub mod Knowledge
pub mod Propagation
