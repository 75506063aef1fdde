pub mod Meters
pub mod Face
