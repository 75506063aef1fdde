pub mod Keeping
pub mod Eights
pub mod Unit
pub mod Block
pub mod Growing
