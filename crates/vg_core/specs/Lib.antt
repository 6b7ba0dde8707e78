pub mod Layouts
pub mod Library
pub mod Syntax
pub mod Units
