pub mod Laws
pub mod Powers
pub mod Products
pub mod Proper
pub mod FirstAgainst
pub mod Reduced
pub mod Compared
pub mod ByFormula
