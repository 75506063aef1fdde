pub mod Left
pub mod Bytes
pub mod Counting
pub mod Division
pub mod Stepping
