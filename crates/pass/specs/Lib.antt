pub mod Stopping
pub mod Steps
pub mod Tracks
