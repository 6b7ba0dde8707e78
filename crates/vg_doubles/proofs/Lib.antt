pub mod PageRoles
pub mod PageBytes
pub mod PageCalls
pub mod NamedLists
