pub mod Running
pub mod Arriving
