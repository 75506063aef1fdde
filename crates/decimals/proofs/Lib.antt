pub mod Spelling
pub mod Short
pub mod Eight
