pub mod Use
pub mod Runs
pub mod Numbering
pub mod Contents
pub mod Units
