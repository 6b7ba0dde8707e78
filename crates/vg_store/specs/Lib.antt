pub mod RealTables
pub mod RealLinks
pub mod RealStates
pub mod Beginning
