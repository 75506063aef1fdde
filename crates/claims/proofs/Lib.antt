pub mod Tests
pub mod Bits
pub mod Sets
pub mod Clashes
pub mod Firsts
pub mod Holding
pub mod Lone
pub mod Elements
