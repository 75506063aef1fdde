pub mod Bare
pub mod Turn
pub mod Only
pub mod Readers
