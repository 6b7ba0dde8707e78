pub mod Below
pub mod Closing
pub mod Turns
mod Lists
pub mod Strict
mod Declarations
mod Depths
pub mod Links
mod Arguments
