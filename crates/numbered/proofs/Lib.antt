pub mod Storing
