pub mod Record
pub mod State
pub mod Access
pub mod Rows
pub mod Views
pub mod Worked
