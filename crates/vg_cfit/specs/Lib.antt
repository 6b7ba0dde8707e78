pub mod Bindings
pub mod Fit
