pub mod Fronts
pub mod Scanning
