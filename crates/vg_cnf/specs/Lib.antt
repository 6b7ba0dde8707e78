pub mod Clauses
pub mod Lists
pub mod Orders
pub mod Propagation
pub mod Refutations
