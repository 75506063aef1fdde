pub mod Walking
pub mod Telling
pub mod Seeking
pub mod Answering
pub mod Only
pub mod Rows
