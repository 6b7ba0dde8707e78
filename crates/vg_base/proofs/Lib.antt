pub mod Disks
pub mod HandleLists
