pub mod Indices
pub mod Links
pub mod ChainState
pub mod Times
