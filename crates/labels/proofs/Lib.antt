pub mod Standing
pub mod Telling
pub mod Seeking
pub mod Giving
pub mod Only
pub mod Rows
