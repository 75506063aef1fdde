pub mod Owed
pub mod Concluding
pub mod Reading
pub mod Accepting
pub mod Bounds
pub mod Asking
pub mod Only
pub mod PartPlaces
