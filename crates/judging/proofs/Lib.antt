pub mod Ended
pub mod Fixed
