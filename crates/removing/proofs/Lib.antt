pub mod Telling
pub mod Seeking
pub mod Judging
pub mod Moving
pub mod Accepted
pub mod Only
pub mod Rows
