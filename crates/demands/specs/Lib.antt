pub mod Runs
pub mod Bargain
pub mod Made
