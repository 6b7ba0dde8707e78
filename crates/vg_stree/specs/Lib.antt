pub mod Syntax
pub mod Declarations
pub mod Names
pub mod Depths
pub mod Specification
pub mod Configuration
pub mod Routes
