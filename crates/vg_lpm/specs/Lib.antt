pub mod Table
pub mod Building
