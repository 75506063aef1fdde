pub mod Zeroed
