pub mod Written
pub mod Kinds
pub mod Growing
pub mod Rules
pub mod Texts
pub mod Reader
