pub mod Answering
pub mod Finding
pub mod Looking
pub mod Stacking
pub mod Telling
