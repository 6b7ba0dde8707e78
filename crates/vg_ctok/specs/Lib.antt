pub mod Bytes
pub mod Tables
pub mod Numbers
pub mod Comments
pub mod Directives
pub mod Pieces
pub mod Texts
pub mod Reader
