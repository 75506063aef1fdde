pub mod Sheet
pub mod Lacking
pub mod Rows
