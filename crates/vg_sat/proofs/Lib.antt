pub mod Choosing
pub mod Deciding
pub mod Opening
pub mod Shortening
pub mod Spending
pub mod Loads
pub mod Counting
