pub mod Names
pub mod Scopes
pub mod Tables
pub mod Views
