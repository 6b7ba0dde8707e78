pub mod SlotLists
pub mod Found
pub mod Standing
pub mod Steps
pub mod Tables
