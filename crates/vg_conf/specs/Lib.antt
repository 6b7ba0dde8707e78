pub mod Pieces
pub mod Numbers
pub mod Named
pub mod Given
pub mod Lines
pub mod Reading
