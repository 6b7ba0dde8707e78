pub mod Commands
pub mod View
pub mod Reading
