pub mod Lists
pub mod Trees
pub mod Sights
pub mod Telling
pub mod Seeing
pub mod Naming
