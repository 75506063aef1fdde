pub mod Stands
pub mod Ending
pub mod Stopped
pub mod Left
