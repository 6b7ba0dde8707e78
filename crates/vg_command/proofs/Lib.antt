mod WordLists
mod NumberWords
mod FileWords
pub mod Decoding
