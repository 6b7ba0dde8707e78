pub mod Scoping
pub mod Visible
