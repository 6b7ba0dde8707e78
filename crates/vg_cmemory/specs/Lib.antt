pub mod State
pub mod FrameCalls
pub mod Kept
pub mod Access
pub mod Loans
pub mod Cells
pub mod Laws
