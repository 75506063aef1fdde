pub mod Owed
pub mod Marked
