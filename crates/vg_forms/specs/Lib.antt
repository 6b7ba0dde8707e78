pub mod Forms
pub mod Places
pub mod Grammar
pub mod Spelling
pub mod Guided
pub mod Reading
pub mod Refusals
