pub mod Ending
pub mod Pieces
pub mod Long
pub mod Parts
pub mod Closed
