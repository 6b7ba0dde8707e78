pub mod Bytes
pub mod Tables
pub mod Numbers
pub mod Comments
pub mod Pieces
pub mod Texts
