pub mod Files
pub mod Loading
pub mod Sink
pub mod Handle
pub mod Several
