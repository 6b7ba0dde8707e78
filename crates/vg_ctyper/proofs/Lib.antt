pub mod Deciding
pub mod Earliest
pub mod Growing
pub mod Laws
pub mod Ranking
pub mod Rounding
pub mod Sizing
pub mod Unwrapping
