pub mod Pieces
pub mod Truth
pub mod Steps
pub mod Soundness
pub mod Settled
pub mod Orders
mod Examples
