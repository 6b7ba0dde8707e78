pub mod Masks
pub mod Machine
pub mod Laws
