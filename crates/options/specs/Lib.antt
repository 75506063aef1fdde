pub mod Words
pub mod Numerals
pub mod Steps
