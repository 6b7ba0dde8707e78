pub mod Forms
pub mod Kinds
pub mod Places
pub mod Grammar
pub mod Reading
pub mod Spelling
pub mod Guided
pub mod Refusals
