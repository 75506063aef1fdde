pub mod Runs
pub mod Sensors
pub mod Tallies
pub mod Told
pub mod Traced
