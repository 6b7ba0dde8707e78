pub mod Cuts
pub mod Sizes
pub mod Lens
pub mod NumberLaws
pub mod CommentLaws
pub mod Defining
