pub mod Sharing
pub mod Resuming
