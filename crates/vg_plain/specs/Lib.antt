pub mod PlainTables
pub mod LinkStates
pub mod PlainLinks
pub mod Expiring
pub mod PlainStates
pub mod Beginning
