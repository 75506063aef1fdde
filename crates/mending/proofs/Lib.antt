pub mod Clearing
pub mod Laying
pub mod Listing
pub mod Copying
pub mod Tidying
