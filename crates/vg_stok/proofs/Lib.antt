mod Sizes
mod NumberLaws
mod Cuts
