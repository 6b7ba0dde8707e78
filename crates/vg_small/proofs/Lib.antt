pub mod Options
mod Cutting
pub mod CutLaws
mod Suffixes
pub mod NumberLaws
pub mod SpellingLaws
mod ReadingLaws
pub mod MeaningLaws
